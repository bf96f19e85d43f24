-- If a line is not written, the bytes from before the first one are still there.
use Rattle.rbg_wire.proofs.Kept.{broken_off}
use Rattle.rbg_questions.proofs.summary_writer.put_endings.Goals as goal

pub returns-in_err-put_ending : goal.returns-in_err-put_ending
returns-in_err-put_ending c = broken_off _ _ _ _ _ _ c.from_residual.result c.from_residual.ensures.1 c.loop-tally.invariant c.put_ending.ensures.kept
