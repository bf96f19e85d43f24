use Rattle.std.proofs.Common.{length, sym, ap, arith}
use Rattle.rbg_wire.specs.Messages.{message_of}
use Rattle.rbg_match.specs.Deliveries.{to_each}
use Rattle.rbg_match.proofs.Delivering.{delivered-none, length-delivered, to_each-more}
use Rattle.rbg_match.proofs.Sayings.{said_refused, said_more}
use Rattle.rbg_match.proofs.outbox.Outbox.queue_for_each.Goals as goal

pub loop-index-init : goal.loop-index-init
loop-index-init c = sym (delivered-none _)

pub queue_message-requires-clause-is_there : goal.queue_message-requires-clause-is_there
queue_message-requires-clause-is_there c = omega (arith, ap length c.loop-index.invariant, length-delivered c.args.self.now (to_each c.loop-index.index (message_of c.args.message.now)))

pub returns-in_err-queue_message : goal.returns-in_err-queue_message
returns-in_err-queue_message c = said_refused _ c.loop-index.invariant c.queue_message.ensures c.from_residual.result c.from_residual.ensures.0 _

pub loop-index-preserved : goal.loop-index-preserved
loop-index-preserved c =
    let told = c.in_ok-queue_message.ensures in
    rw (to_each-more c.loop-index.index (message_of c.args.message.now)) (said_more _ _ _ c.loop-index.invariant (rw (← told.whole) told.beyond))
