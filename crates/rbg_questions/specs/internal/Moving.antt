-- One move of a match that is played by chance.
use Rattle.std.specs.Prelude.{◌≡◌, ℕ, List, length, Bool, true, false, Option}
use Rattle.rbg_rules.specs.Meaning.{AbstractGame, AbstractPlace, Finished}
use Rattle.rbg_questions.specs.Sessions.{Leads}
use Rattle.rbg_questions.specs.Chance.{Ends}

-- A move leads on, or there is none.
pub data MovesOn (game : AbstractGame) (from : AbstractPlace) : Bool → (to : AbstractPlace) → Type 0 where
  moved : {pairs : List (ℕ × ℕ)} {to : AbstractPlace} →
      Leads game from pairs to →
      MovesOn game from true to
  rests : Finished game from → MovesOn game from false from

-- A match from the place ends so, after so many moves.
pub record IsPlayedTo (game : AbstractGame) (from : AbstractPlace) (scores : Option (List ℕ)) (made : ℕ) : Type 0 where
  pub moves : List (List (ℕ × ℕ))
  pub ends : Ends game from moves scores
  pub many : made ≡ length moves
