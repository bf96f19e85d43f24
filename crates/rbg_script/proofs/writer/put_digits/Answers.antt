-- If a byte is not written, the bytes from before the first one are still there.
use Rattle.rbg_wire.proofs.Kept.{broken_off}
use Rattle.rbg_script.proofs.writer.put_digits.Goals as goal

pub returns-in_err-put_byte : goal.returns-in_err-put_byte
returns-in_err-put_byte c = broken_off _ _ _ _ _ _ c.from_residual.result c.from_residual.ensures.1 c.loop-byte.invariant c.put_byte.ensures.kept
