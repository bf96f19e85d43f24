-- No place is packed so, or a question was given up, or there was no memory, or play stands at the place.
use Rattle.rbg_base.proofs.Errors.{passed_on}
use Rattle.rbg_questions.proofs.Answering.{unpacks_place}
use Rattle.rbg_questions.specs.Answering.{untold_where_unpacked}
use Rattle.rbg_questions.proofs.Faults.{unpack_refused}
use Rattle.rbg_questions.proofs.Places.{reached_unpacked}
use Rattle.rbg_questions.proofs.session.Session.stand_at.Goals as goal

pub returns-in_err-place-clause-refused : goal.returns-in_err-place-clause-refused
returns-in_err-place-clause-refused c =
    rw (← c.self.view_is) (passed_on c.from_residual.result c.in_err-place.field-0.0 _ c.from_residual.ensures.1 (unpack_refused _ _ _ c.in_err-place.ensures.refused))

pub returns-in_err-standing-clause-refused : goal.returns-in_err-standing-clause-refused
returns-in_err-standing-clause-refused c =
    rw (← c.self.view_is)
    (passed_on c.from_residual-in_err-standing.result c.in_err-standing.field-0.0 _ c.from_residual-in_err-standing.ensures.1 (untold_where_unpacked c.in_ok-place.ensures.fits c.in_ok-place.ensures.text (rw c.new-there.ensures at c.in_err-standing.ensures.untold)))

pub invariant_of-self-2 : goal.invariant_of-self-2
invariant_of-self-2 c =
    reached_unpacked _ _ _ _ _ _ _ _ c.clear.ensures.items c.in_ok-origin.ensures.copy c.in_ok-heard.ensures.copy c.replace.ensures.after c.replace-2.ensures.after c.replace-3.ensures.after c.in_ok-place.ensures.fits

pub returns-clause-answers : goal.returns-clause-answers
returns-clause-answers c =
    rw (← c.self.view_is)
    (unpacks_place _ _ _ _ _ _ _ _ _ _ _ _ c.in_ok-place.ensures.fits c.in_ok-place.ensures.text (rw c.new-there.ensures at c.in_ok-standing.ensures.stands) c.in_ok-write_standing.ensures.ok c.clear.ensures.items c.in_ok-origin.ensures.copy c.in_ok-heard.ensures.copy c.replace.ensures.after c.replace-2.ensures.after c.replace-3.ensures.after)
