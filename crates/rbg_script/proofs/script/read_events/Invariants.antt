-- The lines before what is left spell the events so far.
use Rattle.std.proofs.Common.{length, map}
use Rattle.rbg_script.specs.Events.{owned_event_of}
use Rattle.rbg_script.specs.internal.Reading.{ReadSoFar}
use Rattle.rbg_script.proofs.script.read_events.Given as goal

abbrev pub invariant-loop-left : goal.invariant-loop-left
invariant-loop-left l = ReadSoFar l.text l.left (map owned_event_of l.events.items)

abbrev pub decreases-loop-left : goal.decreases-loop-left
decreases-loop-left l = length l.left
