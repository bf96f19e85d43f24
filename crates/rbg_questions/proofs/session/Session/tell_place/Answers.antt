-- How play stands is told, or the question was given up, or there was no memory.
use Rattle.rbg_questions.proofs.Answering.{tells_place}
use Rattle.rbg_questions.specs.Answering.{untold}
use Rattle.rbg_base.proofs.Errors.{passed_on}
use Rattle.rbg_questions.proofs.session.Session.tell_place.Goals as goal

pub returns-in_err-standing-clause-refused : goal.returns-in_err-standing-clause-refused
returns-in_err-standing-clause-refused c =
    rw (← c.self.view_is) (passed_on c.from_residual.result c.in_err-standing.field-0.0 _ c.from_residual.ensures.1 (untold (rw c.new-here.ensures at c.in_err-standing.ensures.untold)))

pub returns-clause-answers : goal.returns-clause-answers
returns-clause-answers c = rw (← c.self.view_is) (tells_place _ _ _ _ (rw c.new-here.ensures at c.in_ok-standing.ensures.stands) c.in_ok-write_standing.ensures.ok)
