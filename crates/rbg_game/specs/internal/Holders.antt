-- What is wrong with players or variables that are added to a table of names.
use Rattle.std.specs.Prelude.{ℕ, List, map}
use Rattle.rbg_grammar.specs.Tree.{SpeltBounded}
use Rattle.rbg_game.specs.declared.game_error.GameError.{GameError}
use Rattle.rbg_game.specs.declared.game_error.GameError.TheVariants.{Bound}
use Rattle.rbg_game.specs.NameTables.{HasNameFault}
use Rattle.rbg_game.specs.Faults.{HasGreatBound}

-- What is wrong with players or variables that are added after the earlier names.
pub data HasHolderFault (earlier : List (List ℕ)) (holders : List SpeltBounded) : GameError → Type 0 where
  by_name : {error : GameError}
      → HasNameFault earlier (map (λ holder. holder.name) holders) error
      → HasHolderFault earlier holders error
  by_bound : {at : ℕ}
      → HasGreatBound holders at
      → HasHolderFault earlier holders (Bound at)
