-- Where a move leads a game that is played move by move.
use Rattle.std.specs.Prelude.{◌≡◌, ◌==◌, ℕ, ◌+◌, min, if◌then◌else◌, List}
use Rattle.rbg_rules.specs.Meaning.{AbstractPlace, Legal}
use Rattle.rbg_moves.specs.Limits.{most_keeper_moves}
use Rattle.rbg_moves.specs.Playing.{Playing}

-- how many moves the keeper has made in a row after a move from here
abbrev pub in_a_row_after : Playing → ℕ
in_a_row_after from = if from.place.state.player == 0 then min (from.in_a_row + 1) most_keeper_moves else 0

-- where the game stands after a move to this place
abbrev pub moved_to : Playing → AbstractPlace → Playing
moved_to from place = record { game = from.game; place = place; in_a_row = in_a_row_after from }

-- The pairs are a legal move from the one to the other.
pub record Moves (from : Playing) (pairs : List (ℕ × ℕ)) (to : Playing) : Type 0 where
  pub legal : Legal from.game from.place pairs to.place
  pub is : to ≡ moved_to from to.place
