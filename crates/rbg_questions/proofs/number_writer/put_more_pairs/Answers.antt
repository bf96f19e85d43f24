-- If a pair is not written, the bytes from before the first one are still there.
use Rattle.rbg_wire.proofs.Kept.{broken_off}
use Rattle.rbg_questions.proofs.number_writer.put_more_pairs.Goals as goal

pub returns-in_err-put_next_pair : goal.returns-in_err-put_next_pair
returns-in_err-put_next_pair c = broken_off _ _ _ _ _ _ c.from_residual.result c.from_residual.ensures.1 c.loop-pair.invariant c.put_next_pair.ensures.kept
