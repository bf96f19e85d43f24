use Rattle.std.proofs.Common.{◌≡◌}
use Rattle.rbg_wire.specs.Messages.{message_of}
use Rattle.rbg_match.specs.Deliveries.{delivered, to_each}
use Rattle.rbg_match.proofs.outbox.Outbox.queue_for_each.Given as goal

abbrev pub invariant-loop-index : goal.invariant-loop-index
invariant-loop-index l = l.self ≡ delivered l.initial.self (to_each l.index (message_of l.message))
