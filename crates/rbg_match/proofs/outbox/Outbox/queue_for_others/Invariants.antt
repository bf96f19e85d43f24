use Rattle.std.proofs.Common.{◌≡◌}
use Rattle.rbg_wire.specs.Messages.{message_of}
use Rattle.rbg_match.specs.Deliveries.{delivered, to_others}
use Rattle.rbg_match.proofs.outbox.Outbox.queue_for_others.Given as goal

abbrev pub invariant-loop-index : goal.invariant-loop-index
invariant-loop-index l = l.self ≡ delivered l.initial.self (to_others l.index l.one (message_of l.message))
