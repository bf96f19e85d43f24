use Rattle.std.proofs.Common.{◌++◌, List, map, take}
use Rattle.rbg_hall.proofs.Common.{AbstractTable, HasRun}
use Rattle.rbg_script.specs.Events.{AbstractEvent, event_of}
use Rattle.rbg_hall.proofs.whole.hear_all.Given as goal

abbrev pub invariant-loop-event : goal.invariant-loop-event
invariant-loop-event g l = (starts : List AbstractTable) (earlier : List AbstractEvent) →
    HasRun starts earlier l.initial.hall.state l.initial.out → HasRun starts (earlier ++ map event_of (take l.event-index l.events)) l.hall.state l.out
