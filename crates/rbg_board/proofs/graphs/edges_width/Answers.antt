-- The width grows by one edge at a time.
use Rattle.std.proofs.Common.{arith}
use Rattle.rbg_board.proofs.Widths.{edges_more}
use Rattle.rbg_board.proofs.graphs.edges_width.Goals as goal

pub loop-edge-preserved : goal.loop-edge-preserved
loop-edge-preserved c =
    let more = edges_more c.args.edges.now c.loop-edge.edge-index c.loop-edge-test.true in
    record {
      width = omega (arith, more, c.max-width.ensures, c.loop-edge.invariant.width);
      limit = omega (arith, c.max-width.ensures, c.loop-edge.invariant.limit);
    }
