-- The hall has heard the first events.
use Rattle.std.proofs.Common.{ℕ, List, ◌++◌, map, take}
use Rattle.rbg_hall.proofs.Common.{AbstractTable}
use Rattle.rbg_script.specs.Events.{AbstractEvent, event_of}
use Rattle.rbg_hosting.specs.internal.Recorded.{HasHeard}
use Rattle.rbg_hosting.proofs.replay.hear_all.Given as goal

abbrev pub invariant-loop-event : goal.invariant-loop-event
invariant-loop-event g l =
    (starts : List AbstractTable) (matches : ℕ) (earlier : List AbstractEvent) →
    HasHeard g.A.Archive.handed starts matches l.initial.recorded.recorder earlier l.initial.recorded.hall.state l.initial.out →
    HasHeard g.A.Archive.handed starts matches l.recorded.recorder (earlier ++ map event_of (take l.event-index l.events)) l.recorded.hall.state l.out
