-- The move isn't made, or it isn't told how play stands after it, or there was no memory, or the session goes on.
use Rattle.rbg_questions.proofs.Answering.{made_move}
use Rattle.rbg_questions.specs.Answering.{unmade, untold_after}
use Rattle.rbg_base.proofs.Errors.{passed_on}
use Rattle.rbg_questions.proofs.Places.{reached_made}
use Rattle.rbg_questions.proofs.session.Session.make.Goals as goal

pub returns-in_err-to-clause-refused : goal.returns-in_err-to-clause-refused
returns-in_err-to-clause-refused c =
    rw (← c.self.view_is) (passed_on c.from_residual.result c.in_err-to.field-0.0 _ c.from_residual.ensures.1 (unmade (rw c.new-here.ensures at c.in_err-to.ensures.unmade)))

pub returns-in_err-standing-clause-refused : goal.returns-in_err-standing-clause-refused
returns-in_err-standing-clause-refused c =
    rw (← c.self.view_is)
    (passed_on c.from_residual-in_err-standing.result c.in_err-standing.field-0.0 _ c.from_residual-in_err-standing.ensures.1 (untold_after (rw c.new-here.ensures at c.in_ok-to.ensures.leads) (rw c.new-there.ensures at c.in_err-standing.ensures.untold)))

pub invariant_of-self-2 : goal.invariant_of-self-2
invariant_of-self-2 c =
    (reached_made _ _ _ _ _ _ _ _ _ _ c.self.invariant.0 (rw c.new-here.ensures at c.in_ok-to.ensures.leads) (rw c.new-here.ensures at c.in_ok-to.ensures.in_game) c.reserve.ensures.items c.replace.ensures.value c.replace.ensures.after c.push_reserved.ensures.items, c.self.invariant.1)

pub returns-clause-answers : goal.returns-clause-answers
returns-clause-answers c =
    rw (← c.self.view_is)
    (made_move _ _ _ _ _ _ _ _ _ _ (rw c.new-here.ensures at c.in_ok-to.ensures.leads) (rw c.new-there.ensures at c.in_ok-standing.ensures.stands) c.in_ok-write_standing.ensures.ok c.reserve.ensures.items c.replace.ensures.value c.replace.ensures.after c.push_reserved.ensures.items)
