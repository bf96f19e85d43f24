-- If a way is not written, the bytes from before the first one are still there.
use Rattle.std.proofs.Common.{ap, ◌∙◌}
use Rattle.rbg_board.specs.Graph.{next}
use Rattle.rbg_wire.proofs.Kept.{broken_off}
use Rattle.rbg_questions.proofs.Shaping.{ways_more}
use Rattle.rbg_questions.proofs.shape_writer.put_ways.Goals as goal

pub returns-in_err-put_way : goal.returns-in_err-put_way
returns-in_err-put_way c = broken_off _ _ _ _ _ _ c.from_residual.result c.from_residual.ensures.1 c.loop-index.invariant c.put_way.ensures.kept

pub loop-index-preserved : goal.loop-index-preserved
loop-index-preserved c = ways_more c.args.out.now.items c.loop-index.out.items _ c.args.game.now.board c.args.vertex c.loop-index.index _ c.loop-index.invariant (c.step.ensures.next ∙ ap (λ b. next b c.args.vertex c.loop-index.index) c.board.ensures.board) c.in_ok-put_way.ensures.written
