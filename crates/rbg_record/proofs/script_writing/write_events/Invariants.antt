-- The lines so far are those of the events so far, which have spellings.
use Rattle.std.proofs.Common.{◌≡◌, ◌++◌, take, map, All}
use Rattle.rbg_script.specs.Events.{EventHasSpelling, owned_event_of}
use Rattle.rbg_record.specs.Writing.{texts_of}
use Rattle.rbg_record.proofs.script_writing.write_events.Given as goal

abbrev pub invariant-loop-event : goal.invariant-loop-event
invariant-loop-event l =
    (l.out.items ≡ l.fn.out.items ++ texts_of (take l.event-index l.events))
    × All EventHasSpelling (map owned_event_of (take l.event-index l.events))
