use Rattle.rbg_base.proofs.Common.{◌≡◌, [], length, sym, ap, ◌∙◌, arith, length-map, length-replicate}
use Rattle.rbg_hall.proofs.queues.Queues.new.Goals as goal

pub invariant_of-result : goal.invariant_of-result
invariant_of-result c =
    let all : c.loop.counter ≡ 128 = omega (arith, c.loop-test.false, c.loop.auto.counter-end) in
    sym (length-map c.loop.bytes.items (λ queue. queue.items)) ∙ ap length c.loop.invariant ∙ length-replicate c.loop.counter [] ∙ all
