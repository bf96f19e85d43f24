-- What a table does in parts, and what is queued for the lines then.
use Rattle.std.specs.Prelude.{◌≡◌, ◌+◌, ◌<◌, ◌^◌, ℕ, List, Option, Some, None, slice_get}
use Rattle.rbg_script.specs.Events.{AbstractEvent}
use Rattle.rbg_match.specs.Matches.{MatchState, Opens}
use Rattle.rbg_hall.specs.Tables.{TableState, HasNoSeat, Plays, SitsAt}
use Rattle.rbg_hall.specs.Tellings.{Telling, to_lines, told_to}

-- the index is the first one at which this stands
pub record IsFirstAt (seats : List (Option ℕ)) (wanted : Option ℕ) (index : ℕ) : Type 0 where
  pub there : slice_get seats index ≡ Some wanted
  pub first : (other : ℕ) → other < index → ¬ (slice_get seats other ≡ Some wanted)

-- The seat of a line is at this index, if it has one. Without a line any index will do.
abbrev pub IsSeatOf : TableState → (line : Option ℕ) → (seat : Option ℕ) → Type 0
IsSeatOf table None seat = Unit {0}
IsSeatOf table (Some line) (Some index) = SitsAt table line index × (index + 1 < 2 ^ 64)
IsSeatOf table (Some line) None = HasNoSeat table line

-- A table whose match has begun lets it handle an event. Another one does nothing.
pub data PlaysFor (old : TableState) (event : AbstractEvent) : (new : TableState) → (before after : List (List ℕ)) → Type 0 where
  nothing : {queues : List (List ℕ)} →
      old.begun ≡ None →
      PlaysFor old event old queues queues
  plays : {new : TableState} {before after : List (List ℕ)} →
      (told : List Telling) →
      Plays old event new told →
      after ≡ told_to before told →
      PlaysFor old event new before after

-- The match of a table begins.
pub record BeginsFor (old : TableState) (at : ℕ) (new : TableState) (before after : List (List ℕ)) : Type 0 where
  pub opened : MatchState
  pub queues : List (List ℕ)
  pub waits : old.begun ≡ None
  pub opens : Opens old.game old.text old.config at opened queues
  pub is : new ≡ record old { begun = Some opened }
  pub queued : after ≡ told_to before (to_lines old.seats queues)
