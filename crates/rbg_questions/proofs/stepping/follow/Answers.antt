-- The move isn't legal, or the question was given up.
use Rattle.rbg_questions.specs.Places.{illegal, not_told}
use Rattle.rbg_questions.specs.internal.Refusing.{refusal_of_over}
use Rattle.rbg_questions.proofs.Faults.{given_up}
use Rattle.rbg_base.proofs.Errors.{passed_on}
use Rattle.rbg_questions.proofs.stepping.follow.Goals as goal

pub returns-in_err-to-clause-unfollowed : goal.returns-in_err-to-clause-unfollowed
returns-in_err-to-clause-unfollowed c =
    passed_on c.from_residual.result (refusal_of_over c.in_err-to.field-0.0) _ c.from_residual.ensures.1
    (not_told (given_up _ _ _ _ c.in_err-to.field-0.0 c.in_err-to.ensures.tries.given_up.heavy))

pub returns-in_default-clause-unfollowed : goal.returns-in_default-clause-unfollowed
returns-in_default-clause-unfollowed c = illegal (rw c.in_default.is at c.in_ok-to.ensures.tries.illegal) c.in_ok-to.ensures.tries.fits
