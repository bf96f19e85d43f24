-- The first events are added.
use Rattle.std.proofs.Common.{◌≡◌, ◌++◌, map, take}
use Rattle.rbg_script.specs.Events.{event_of, owned_event_of}
use Rattle.rbg_hosting.specs.Pasts.{heard_on}
use Rattle.rbg_hosting.proofs.replay.add_events.Given as goal

abbrev pub invariant-loop-event : goal.invariant-loop-event
invariant-loop-event l = map event_of l.events.items ≡ map event_of l.initial.events.items ++ map (λ event. heard_on l.seats.line l.seats.players (owned_event_of event)) (take l.event-index l.script)
