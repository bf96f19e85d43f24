-- If a name is not written, the bytes from before the first one are still there.
use Rattle.rbg_wire.proofs.Kept.{broken_off}
use Rattle.rbg_questions.proofs.Naming.{names_more}
use Rattle.rbg_questions.proofs.shape_writer.put_directions.Goals as goal

pub returns-in_err-put_direction : goal.returns-in_err-put_direction
returns-in_err-put_direction c = broken_off _ _ _ _ _ _ c.from_residual.result c.from_residual.ensures.1 c.loop-index.invariant c.put_direction.ensures.kept

pub loop-index-preserved : goal.loop-index-preserved
loop-index-preserved c = names_more _ _ _ _ _ _ c.loop-index.invariant c.direction_name.ensures c.in_ok-put_direction.ensures.written
