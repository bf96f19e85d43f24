-- There are as many moves as were gathered.
use Rattle.std.proofs.Common.{arith, refl}
use Rattle.rbg_base.proofs.Errors.{passed_on}
use Rattle.rbg_questions.proofs.Counted.{has_moves}
use Rattle.rbg_questions.proofs.stepping.count_at.Goals as goal

pub returns-in_err-gathered-clause-unlisted : goal.returns-in_err-gathered-clause-unlisted
returns-in_err-gathered-clause-unlisted c = passed_on c.from_residual.result c.in_err-gathered.field-0.0 _ c.from_residual.ensures.1 c.in_err-gathered.ensures.unlisted

pub returns-clause-count : goal.returns-clause-count
returns-clause-count c = has_moves _ _ _ _ _ _ _ c.in_ok-gathered.ensures.gathered c.len-count.ensures.count c.len-count.ensures.small (omega arith) refl
