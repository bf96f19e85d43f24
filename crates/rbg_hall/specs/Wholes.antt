-- A hall and its queues after a list of events.
use Rattle.std.specs.Prelude.{◌≡◌, ℕ, List, [], replicate}
use Rattle.rbg_hall.specs.TableLimits.{lines_in_all}
use Rattle.rbg_hall.specs.Tellings.{Telling, told_to}
use Rattle.rbg_hall.specs.Allowed.{IsAllowed}
use Rattle.rbg_script.specs.Events.{AbstractEvent}
use Rattle.rbg_hall.specs.Halls.{AbstractTable, HallState, HallRun}
use Rattle.rbg_hall.specs.Openings.{MayBeTables, AreWithinLimits}

-- These events in turn led a hall with these tables to this state, and these bytes are queued for its lines.
pub record HasRun (starts : List AbstractTable) (events : List AbstractEvent) (state : HallState) (queues : List (List ℕ)) : Type 0 where
  pub told : List Telling
  pub run : HallRun starts events state told
  pub queued : queues ≡ told_to (replicate lines_in_all []) told

-- There may be a hall with these tables, and these bytes may be queued for its lines after these events.
pub record IsOfHall (starts : List AbstractTable) (events : List AbstractEvent) (queues : List (List ℕ)) : Type 0 where
  pub lawful : MayBeTables starts
  pub configs : AreWithinLimits starts
  pub allowed : IsAllowed starts events queues
