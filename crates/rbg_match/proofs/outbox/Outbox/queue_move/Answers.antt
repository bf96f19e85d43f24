use Rattle.std.proofs.Common.{length, sym, ap, ◌∙◌, arith}
use Rattle.rbg_wire.specs.Messages.{move_message}
use Rattle.rbg_match.specs.Deliveries.{to_each}
use Rattle.rbg_match.proofs.Delivering.{delivered-none, length-delivered, to_each-more}
use Rattle.rbg_match.proofs.Sayings.{nothing_err, said_refused, said_more}
use Rattle.rbg_match.proofs.outbox.Outbox.queue_move.Goals as goal

pub returns-in_err-write_move : goal.returns-in_err-write_move
returns-in_err-write_move c = rw (← c.self.view_is) (nothing_err _ c.from_residual.result c.from_residual.ensures.0 _)

pub loop-index-init : goal.loop-index-init
loop-index-init c = c.self.view_is ∙ sym (delivered-none _)

pub queue-requires-clause-is_there : goal.queue-requires-clause-is_there
queue-requires-clause-is_there c = omega (arith, ap length c.self.view_is, ap length c.loop-index.invariant, length-delivered c.args.self.now (to_each c.loop-index.index (move_message c.args.pairs.now)))

pub returns-in_err-queue : goal.returns-in_err-queue
returns-in_err-queue c =
    let spelled = rw c.clear.ensures.items at c.in_ok-write_move.ensures.ok in
    said_refused _ c.loop-index.invariant (c.queue.ensures (move_message c.args.pairs.now) (c.deref.ensures.value ∙ spelled)) c.from_residual-in_err-queue.result c.from_residual-in_err-queue.ensures.0 _

pub loop-index-preserved : goal.loop-index-preserved
loop-index-preserved c =
    let spelled = rw c.clear.ensures.items at c.in_ok-write_move.ensures.ok in
    let told = c.in_ok-queue.ensures (move_message c.args.pairs.now) (c.deref.ensures.value ∙ spelled) in
    rw (to_each-more c.loop-index.index (move_message c.args.pairs.now)) (said_more _ _ _ c.loop-index.invariant (rw (← told.whole) told.beyond))
