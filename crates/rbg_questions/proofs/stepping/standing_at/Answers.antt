-- A legal move was found, or there is none, or the question was given up.
use Rattle.rbg_questions.specs.declared.question_error.QuestionError.TheVariants.{Memory}
use Rattle.rbg_questions.specs.Places.{no_memory}
use Rattle.rbg_questions.specs.internal.Refusing.{refusal_of_over}
use Rattle.rbg_questions.proofs.Faults.{given_up, stands_on, stands_over}
use Rattle.rbg_base.proofs.Errors.{passed_on}
use Rattle.rbg_questions.proofs.stepping.standing_at.Goals as goal

pub returns-in_err-lent-clause-untold : goal.returns-in_err-lent-clause-untold
returns-in_err-lent-clause-untold c = passed_on c.from_residual.result Memory _ c.from_residual.ensures.1 no_memory

pub returns-in_err-found-clause-untold : goal.returns-in_err-found-clause-untold
returns-in_err-found-clause-untold c =
    passed_on c.from_residual-in_err-found.result (refusal_of_over c.in_err-found.field-0.0) _ c.from_residual-in_err-found.ensures.1
    (given_up _ _ _ _ c.in_err-found.field-0.0 (rw (c.played.ensures, c.in_ok-lent.ensures.copy, c.place.ensures.place) at c.in_err-found.ensures.finds.given_up.heavy))

pub returns-in-Some-clause-stands : goal.returns-in-Some-clause-stands
returns-in-Some-clause-stands c =
    stands_on _ _ _ _ c.player.ensures (rw c.in-Some.is at (rw (c.played.ensures, c.in_ok-lent.ensures.copy, c.place.ensures.place) at c.in_ok-found.ensures.finds.found))

pub returns-in-None-clause-stands : goal.returns-in-None-clause-stands
returns-in-None-clause-stands c =
    stands_over _ _ _ c.scores.ensures.values (rw c.in-None.is at (rw (c.played.ensures, c.in_ok-lent.ensures.copy, c.place.ensures.place) at c.in_ok-found.ensures.finds.finished))
