-- The move isn't followed, or the keeper's moves after it lead to no place where play rests.
use Rattle.rbg_questions.specs.Places.{stopped, unfollowed}
use Rattle.rbg_questions.specs.internal.Refusing.{refusal_of_unsettled}
use Rattle.rbg_questions.proofs.Faults.{stopped_after}
use Rattle.rbg_base.proofs.Errors.{passed_on}
use Rattle.rbg_questions.proofs.stepping.lead.Goals as goal

pub returns-in_err-to-clause-unmade : goal.returns-in_err-to-clause-unmade
returns-in_err-to-clause-unmade c = passed_on c.from_residual.result c.in_err-to.field-0.0 _ c.from_residual.ensures.1 (unfollowed c.in_err-to.ensures.unfollowed)

pub returns-in_err-settle-clause-unmade : goal.returns-in_err-settle-clause-unmade
returns-in_err-settle-clause-unmade c =
    passed_on c.from_residual-in_err-settle.result (refusal_of_unsettled c.in_err-settle.field-0.0) _ c.from_residual-in_err-settle.ensures.1
    (stopped (stopped_after _ _ _ _ _ c.in_err-settle.field-0.0 c.in_ok-to.ensures.legal (rw c.played.ensures at c.in_err-settle.ensures.heavy) (rw c.played.ensures at c.in_err-settle.ensures.endless)))

pub returns-clause-leads : goal.returns-clause-leads
returns-clause-leads c = record { middle = c.in_ok-to.to; legal = c.in_ok-to.ensures.legal; settles = rw c.played.ensures at c.in_ok-settle.ensures.settles }
