-- The question for all legal moves was given up.
use Rattle.rbg_questions.specs.internal.CountRefusing.{error_of_over}
use Rattle.rbg_questions.proofs.Refusing.{over_to_list}
use Rattle.rbg_base.proofs.Errors.{passed_on}
use Rattle.rbg_questions.proofs.counting.list_all.Goals as goal

pub returns-in_err-gathered-clause-refused : goal.returns-in_err-gathered-clause-refused
returns-in_err-gathered-clause-refused c =
    passed_on c.from_residual.result (error_of_over c.in_err-gathered.field-0.0) _ c.from_residual.ensures.1
    (over_to_list _ _ _ c.in_err-gathered.field-0.0 c.in_err-gathered.ensures.lists.given_up.heavy)
