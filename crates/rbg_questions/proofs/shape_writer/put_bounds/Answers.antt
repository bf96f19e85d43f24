-- If a bound is not written, the bytes from before the first one are still there.
use Rattle.std.proofs.Common.{Some, ap, sym, ◌∙◌}
use Rattle.rbg_wire.proofs.Kept.{broken_off}
use Rattle.rbg_questions.proofs.Shaping.{numbers_more}
use Rattle.rbg_questions.proofs.shape_writer.put_bounds.Goals as goal

pub returns-in_err-put_number : goal.returns-in_err-put_number
returns-in_err-put_number c = broken_off _ _ _ _ _ _ c.from_residual.result c.from_residual.ensures.1 c.loop-index.invariant c.put_number.ensures.kept

pub loop-index-preserved : goal.loop-index-preserved
loop-index-preserved c = numbers_more _ _ _ _ _ _ c.loop-index.invariant (c.bound.ensures ∙ ap Some (sym c.from.ensures)) c.in_ok-put_number.ensures.written
