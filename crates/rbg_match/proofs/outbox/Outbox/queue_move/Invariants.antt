use Rattle.std.proofs.Common.{◌≡◌}
use Rattle.rbg_wire.specs.Messages.{move_message}
use Rattle.rbg_match.specs.Deliveries.{delivered, to_each}
use Rattle.rbg_match.proofs.outbox.Outbox.queue_move.Given as goal

abbrev pub invariant-loop-index : goal.invariant-loop-index
invariant-loop-index l = l.self ≡ delivered l.fn.self (to_each l.index (move_message l.pairs))
