-- Laws: a description is at most one game, and so is a text; a description with a fault is none.
use Rattle.std.specs.Prelude.{◌≡◌, ◌≢◌, ℕ, List}
use Rattle.rbg_grammar.specs.Tree.{SpeltDescription}
use Rattle.rbg_rules.specs.Meaning.{AbstractGame}
use Rattle.rbg_game.specs.declared.game_error.GameError.{GameError}
use Rattle.rbg_game.specs.declared.game_error.GameError.TheVariants.{Memory}
use Rattle.rbg_game.specs.Descriptions.{IsGameOf}
use Rattle.rbg_game.specs.Faults.{HasFault}
use Rattle.rbg_game.specs.Loading.{Loads}

-- A description is at most one game.
abbrev pub OneGameOfDescriptionLaw : Type 0
OneGameOfDescriptionLaw =
    (d : SpeltDescription) (a b : AbstractGame)
    → IsGameOf d a
    → IsGameOf d b
    → a ≡ b

-- A text is at most one game.
abbrev pub OneGameLaw : Type 0
OneGameLaw =
    (text : List ℕ) (a b : AbstractGame)
    → Loads text a
    → Loads text b
    → a ≡ b

-- A description with a fault is no game.
abbrev pub NoGameWithFaultLaw : Type 0
NoGameWithFaultLaw =
    (d : SpeltDescription) (error : GameError)
    → HasFault d error
    → error ≢ Memory
    → (game : AbstractGame)
    → ¬ IsGameOf d game
