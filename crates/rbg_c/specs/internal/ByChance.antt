-- One move that is made by chance, and all of them.
use Rattle.std.specs.Prelude.{◌≡◌, ℕ, ◌++◌, List, Bool, false, true}
use Rattle.rbg_rules.specs.Meaning.{Finished}
use Rattle.rbg_c.specs.States.{AbstractState, Makes}
use Rattle.rbg_c.specs.Listing.{numbers_of_move, numbers_of_moves}
use Rattle.rbg_c.specs.Playouts.{PlaysOn}

-- One move by chance.
--   one_made: it was made, and the keeper's moves after it. Its numbers are appended.
--   none_left: there is none, since play is finished.
pub data PlaysOne (old : AbstractState) : Bool → (new : AbstractState) → (before after : List ℕ) → Type 0 where
  one_made : {pairs : List (ℕ × ℕ)} {new : AbstractState} {before after : List ℕ} →
      Makes old pairs new →
      after ≡ before ++ numbers_of_move pairs →
      PlaysOne old true new before after
  none_left : {before : List ℕ} → Finished old.game old.place → PlaysOne old false old before before

-- Some moves by chance lead from one state to the other.
pub record IsPlayedOn (old : AbstractState) (most : ℕ) (new : AbstractState) : Type 0 where
  pub moves : List (List (ℕ × ℕ))
  pub plays : PlaysOn old most moves new

-- Some moves by chance lead from one state to the other, and the numbers of these moves are appended.
pub record TellsOn (old : AbstractState) (most : ℕ) (new : AbstractState) (before after : List ℕ) : Type 0 where
  pub moves : List (List (ℕ × ℕ))
  pub plays : PlaysOn old most moves new
  pub told : after ≡ before ++ numbers_of_moves moves
