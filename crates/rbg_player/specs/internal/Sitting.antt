-- What a seat's calls do.
use Rattle.std.specs.Prelude.{◌≡◌, ℕ, ◌≤◌, List, length, Bool}
use Rattle.rbg_base.specs.Move.{most_pairs}
use Rattle.rbg_wire.specs.Messages.{ArePairs}
use Rattle.rbg_rules.specs.Meaning.{Legal, IsLegal, list_moves, IsTooHard}
use Rattle.rbg_search.specs.declared.over.Over.{Over}
use Rattle.rbg_search.specs.declared.over.Over.TheVariants.{Deep, Wide, Memory}
use Rattle.rbg_player.specs.declared.error.PlayerError.{PlayerError}
use Rattle.rbg_player.specs.declared.error.PlayerError.TheVariants as errors
use Rattle.rbg_moves.specs.Listing.{IsListed}
use Rattle.rbg_player.specs.Limits.{most_choices}
use Rattle.rbg_player.specs.Players.{AbstractSeat, moved_to}
use Rattle.rbg_player.specs.Hearing.{IsMover, HasMoveToMake}

-- the error of a player whose question wasn't answered
abbrev pub error_of : Over → PlayerError
error_of Deep = errors.Over
error_of Wide = errors.Over
error_of Memory = errors.Memory

-- The move of these pairs leads from one seat to the other.
pub record Follows (old : AbstractSeat) (pairs : List (ℕ × ℕ)) (new : AbstractSeat) : Type 0 where
  pub legal : Legal old.game old.place pairs new.place
  pub same : new ≡ moved_to old new.place

-- The seat's player has a move to make, and this is a legal one, which has a spelling.
pub record IsAnswer (seat : AbstractSeat) (answer : List (ℕ × ℕ)) : Type 0 where
  pub has : HasMoveToMake seat
  pub legal : IsLegal seat.game seat.place answer
  pub are : ArePairs answer
  pub few : length answer ≤ most_pairs

-- These are the legal moves at the seat's place, or as many of them as the player chooses among.
pub record Lists (seat : AbstractSeat) (moves : List (List (ℕ × ℕ))) : Type 0 where
  pub cut : Bool
  pub listed : IsListed seat.game seat.place most_choices moves cut

-- Why the seat's player doesn't choose a move.
--   heavy: it is the mover, and the question for the legal moves is above the limits.
--   memory: memory ran out.
pub data IsUnanswered (seat : AbstractSeat) : PlayerError → Type 0 where
  heavy :
      IsMover seat →
      IsTooHard seat.game list_moves seat.place →
      IsUnanswered seat errors.Over
  memory :
      IsUnanswered seat errors.Memory
