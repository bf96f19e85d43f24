-- If a pair is not written, the bytes from before the first pair are still there.
use Rattle.rbg_wire.proofs.Kept.{broken_off}
use Rattle.rbg_wire.proofs.message_writer.put_more_pairs.Goals as goal

pub returns-in_err-put_pair : goal.returns-in_err-put_pair
returns-in_err-put_pair c = broken_off _ _ _ _ _ _ c.from_residual.result c.from_residual.ensures.1 c.loop-pair.invariant c.put_pair.ensures.kept
