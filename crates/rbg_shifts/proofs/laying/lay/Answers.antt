use Rattle.std.proofs.Common.{ℕ, List, get_or, take, subst}
use Rattle.std.proofs.lemmas.List.{take_more, take_all}
use Rattle.rbg_shifts.specs.internal.Tables.{AreLaid}
use Rattle.rbg_shifts.proofs.Layings.{laid_none, laid_more}
use Rattle.rbg_shifts.proofs.laying.lay.Goals as goal

pub loop-node-init : goal.loop-node-init
loop-node-init c = rw c.in_ok-entries.ensures.items (laid_none c.args.vertices c.args.all.now)

pub loop-node-preserved : goal.loop-node-preserved
loop-node-preserved c =
    let ns : List ℕ = c.args.nodes.now in
    let k : ℕ = c.loop-node.node-index in
    rw (take_more ns k 0 c.loop-node-test.true, c.in_ok-extend_from_slice.ensures.items)
    (laid_more c.args.vertices c.args.all.now (take k ns) c.loop-node.entries.items (get_or ns k 0) (c.requires k 0 c.loop-node-test.true) c.loop-node.invariant)

pub returns : goal.returns
returns c = subst (λ (ns : List ℕ). AreLaid c.args.vertices c.args.all.now ns c.loop-node.entries.items) (take_all c.loop-node.node-index c.args.nodes.now c.loop-node-test.false) c.loop-node.invariant
