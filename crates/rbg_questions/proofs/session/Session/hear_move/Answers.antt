-- The move isn't legal, or a question was given up, or there was no memory, or play stands where the move leads.
use Rattle.rbg_questions.proofs.Answering.{heard_move}
use Rattle.rbg_questions.specs.Answering.{unheard, untold_where_heard}
use Rattle.rbg_questions.proofs.Places.{heard_next, reached_heard}
use Rattle.rbg_base.proofs.Errors.{passed_on}
use Rattle.rbg_questions.proofs.session.Session.hear_move.Goals as goal

pub returns-in_err-heard-clause-refused : goal.returns-in_err-heard-clause-refused
returns-in_err-heard-clause-refused c =
    rw (← c.self.view_is) (passed_on c.from_residual.result c.in_err-heard.field-0.0 _ c.from_residual.ensures.1 (unheard (rw c.new-from.ensures at c.in_err-heard.ensures.unfollowed)))

pub returns-in_err-standing-clause-refused : goal.returns-in_err-standing-clause-refused
returns-in_err-standing-clause-refused c =
    rw (← c.self.view_is)
    (passed_on c.from_residual-in_err-standing.result c.in_err-standing.field-0.0 _ c.from_residual-in_err-standing.ensures.1 (untold_where_heard (rw c.new-from.ensures at c.in_ok-heard.ensures.legal) (rw c.new-there.ensures at c.in_err-standing.ensures.untold)))

pub invariant_of-self-2 : goal.invariant_of-self-2
invariant_of-self-2 c =
    reached_heard _ _ _ _ _ _ _ c.clear.ensures.items c.in_ok-place.ensures.copy c.replace-2.ensures.after c.replace.ensures.after c.self.invariant.0.start (rw c.new-from.ensures at c.in_ok-heard.ensures.in_game)
    (heard_next _ _ _ _ _ c.self.invariant.1 (rw c.new-from.ensures at c.in_ok-heard.ensures.legal))

pub returns-clause-answers : goal.returns-clause-answers
returns-clause-answers c =
    rw (← c.self.view_is)
    (heard_move _ _ _ _ _ _ _ _ _ _ (rw c.new-from.ensures at c.in_ok-heard.ensures.legal) (rw c.new-there.ensures at c.in_ok-standing.ensures.stands) c.in_ok-write_standing.ensures.ok c.clear.ensures.items c.replace.ensures.after c.in_ok-place.ensures.copy c.replace-2.ensures.after)
