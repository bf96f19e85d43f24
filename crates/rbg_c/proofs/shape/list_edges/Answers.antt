-- The ways from one more vertex.
use Rattle.std.proofs.Common.{length}
use Rattle.rbg_c.proofs.Shaped.{edges_more}
use Rattle.rbg_c.proofs.shape.list_edges.Goals as goal

pub loop-index-preserved : goal.loop-index-preserved
loop-index-preserved c = edges_more c.loop-index.edges.items _ c.args.game.now.board (length c.args.game.now.directions) c.loop-index.index c.loop-index.invariant c.in_ok-push_ways.ensures
