-- The moves were gathered, or the question was given up, or there was no memory.
use Rattle.rbg_questions.specs.declared.question_error.QuestionError.TheVariants.{Memory}
use Rattle.rbg_questions.specs.Places.{no_memory}
use Rattle.rbg_questions.specs.internal.Refusing.{refusal_of_over}
use Rattle.rbg_questions.proofs.Faults.{given_up}
use Rattle.rbg_base.proofs.Errors.{passed_on}
use Rattle.rbg_questions.proofs.stepping.moves_at.Goals as goal

pub returns-in_err-lent-clause-unlisted : goal.returns-in_err-lent-clause-unlisted
returns-in_err-lent-clause-unlisted c = passed_on c.from_residual.result Memory _ c.from_residual.ensures.1 no_memory

pub returns-in_err-gathered-clause-unlisted : goal.returns-in_err-gathered-clause-unlisted
returns-in_err-gathered-clause-unlisted c =
    passed_on c.from_residual-in_err-gathered.result (refusal_of_over c.in_err-gathered.field-0.0) _ c.from_residual-in_err-gathered.ensures.1
    (given_up _ _ _ _ c.in_err-gathered.field-0.0 (rw (c.played.ensures, c.in_ok-lent.ensures.copy, c.place.ensures.place) at c.in_err-gathered.ensures.lists.given_up.heavy))

pub returns-clause-gathered : goal.returns-clause-gathered
returns-clause-gathered c = rw (c.played.ensures, c.in_ok-lent.ensures.copy, c.place.ensures.place) at c.in_ok-gathered.ensures.lists.lists

pub returns-clause-answered : goal.returns-clause-answered
returns-clause-answered c = rw (c.played.ensures, c.in_ok-lent.ensures.copy, c.place.ensures.place) at c.in_ok-gathered.ensures.lists.fits
