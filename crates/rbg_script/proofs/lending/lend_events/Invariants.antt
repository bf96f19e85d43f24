-- The events so far are the first ones of those that are lent.
use Rattle.std.proofs.Common.{◌≡◌, map, take}
use Rattle.rbg_script.specs.Events.{event_of, owned_event_of}
use Rattle.rbg_script.proofs.lending.lend_events.Given as goal

abbrev pub invariant-loop-event : goal.invariant-loop-event
invariant-loop-event l =
    map event_of l.lent.items ≡ map owned_event_of (take l.event-index l.events)
