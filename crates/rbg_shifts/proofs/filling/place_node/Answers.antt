use Rattle.std.proofs.Common.{arith}
use Rattle.rbg_shifts.proofs.Fillings.{no_vertex, one_more_vertex}
use Rattle.rbg_shifts.proofs.filling.place_node.Goals as goal

pub loop-index-init : goal.loop-index-init
loop-index-init c = no_vertex c.args.ground.now c.args.lists.now c.args.table.now c.args.node c.requires.at.right.sound

pub loop-index-preserved : goal.loop-index-preserved
loop-index-preserved c =
    let count = c.vertices-index-end.ensures.count in
    one_more_vertex c.args.ground.now c.args.lists.now c.args.table.now c.loop-index.table c.place_one.new.table c.args.node c.loop-index.index (omega (arith, count, c.loop-index-test.true)) c.loop-index.invariant c.in_ok-place_one.ensures
