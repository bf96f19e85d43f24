use Rattle.std.proofs.Common.{◌<◌, length, ap, ◌∙◌, arith}
use Rattle.std.proofs.lemmas.List.{length-set, get_or_default}
use Rattle.rbg_match.proofs.Marking.{mark_more}
use Rattle.rbg_match.proofs.outbox.lengths.Goals as goal

pub loop-index-preserved : goal.loop-index-preserved
loop-index-preserved c =
    let marked = c.loop-index.invariant in
    let queue = c.index-queues-index.result in
    let room : c.loop-index.index < length c.loop-index.marks = omega (arith, marked.0) in
    (length-set c.loop-index.marks c.loop-index.index c.len.result ∙ marked.0, mark_more c.loop-index.marks c.args.queues.now c.loop-index.index c.len.result room (λ d. c.len.ensures ∙ queue.ok.0 ∙ ap (λ one. length one.items) (c.index-queues-index.is ∙ get_or_default c.args.queues.now c.loop-index.index queue d c.loop-index-test.true)) marked.1)
