-- If a line is not written, the bytes from before the first one are still there.
use Rattle.std.proofs.Common.{length}
use Rattle.rbg_wire.proofs.Kept.{broken_off}
use Rattle.rbg_questions.proofs.Shaping.{edges_more}
use Rattle.rbg_questions.proofs.shape_writer.put_edges.Goals as goal

pub returns-in_err-put_edges_of : goal.returns-in_err-put_edges_of
returns-in_err-put_edges_of c = broken_off _ _ _ _ _ _ c.from_residual.result c.from_residual.ensures.1 c.loop-index.invariant c.put_edges_of.ensures.kept

pub loop-index-preserved : goal.loop-index-preserved
loop-index-preserved c = edges_more c.args.out.now.items c.loop-index.out.items _ c.args.game.now.board (length c.args.game.now.directions) c.loop-index.index c.loop-index.invariant c.in_ok-put_edges_of.ensures.written
