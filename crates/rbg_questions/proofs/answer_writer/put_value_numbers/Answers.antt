-- If an item is not written, the bytes from before the first one are still there.
use Rattle.rbg_wire.proofs.Kept.{broken_off}
use Rattle.rbg_questions.proofs.answer_writer.put_value_numbers.Goals as goal

pub returns-in_err-put_spaced : goal.returns-in_err-put_spaced
returns-in_err-put_spaced c = broken_off _ _ _ _ _ _ c.from_residual.result c.from_residual.ensures.1 c.loop-value.invariant c.put_spaced.ensures.kept
