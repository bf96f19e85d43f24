-- The first players ask.
use Rattle.std.proofs.Common.{◌≡◌, ◌++◌, map}
use Rattle.rbg_script.specs.Events.{event_of}
use Rattle.rbg_hosting.specs.Pasts.{sent_by_each}
use Rattle.rbg_hosting.proofs.replay.add_asking.Given as goal

abbrev pub invariant-loop-index : goal.invariant-loop-index
invariant-loop-index l = map event_of l.events.items ≡ map event_of l.initial.events.items ++ sent_by_each l.seats.line l.at l.asked l.index
