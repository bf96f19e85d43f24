-- All that is told is what the session holds.
use Rattle.rbg_questions.proofs.Answering.{tells_all}
use Rattle.rbg_questions.specs.Answering.{uncounted}
use Rattle.rbg_base.proofs.Errors.{passed_on}
use Rattle.rbg_questions.proofs.session.Session.tell_state.Goals as goal

pub returns-in_err-count-clause-refused : goal.returns-in_err-count-clause-refused
returns-in_err-count-clause-refused c =
    rw (← c.self.view_is) (passed_on c.from_residual.result c.in_err-count.field-0.0 _ c.from_residual.ensures.1 (uncounted (rw c.new-here.ensures at c.in_err-count.ensures.unlisted)))

pub returns-clause-answers : goal.returns-clause-answers
returns-clause-answers c =
    rw (← c.self.view_is)
    (tells_all _ _ _ _ _ _ _ _ (rw c.new-here.ensures at c.in_ok-count.ensures.count) (rw c.new-here.ensures at c.standing_of-standing.ensures) c.key_of-key.ensures c.pieces_at.ensures c.values_at.ensures c.in_ok-write_state.ensures.ok)
