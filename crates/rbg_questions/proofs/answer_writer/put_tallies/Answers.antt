-- If an item is not written, the bytes from before the first one are still there.
use Rattle.rbg_wire.proofs.Kept.{broken_off}
use Rattle.rbg_questions.proofs.answer_writer.put_tallies.Goals as goal

pub returns-in_err-put_tally : goal.returns-in_err-put_tally
returns-in_err-put_tally c = broken_off _ _ _ _ _ _ c.from_residual.result c.from_residual.ensures.1 c.loop-tally.invariant c.put_tally.ensures.kept
