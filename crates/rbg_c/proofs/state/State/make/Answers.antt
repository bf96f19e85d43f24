-- The move isn't made, or there was no memory, or the state goes on.
use Rattle.rbg_questions.specs.declared.question_error.QuestionError.TheVariants.{Memory}
use Rattle.rbg_questions.specs.Places.{no_memory, not_told, unfollowed}
use Rattle.rbg_base.proofs.Errors.{passed_on}
use Rattle.rbg_c.proofs.Places.{made_state}
use Rattle.rbg_c.proofs.state.State.make.Goals as goal

pub returns-in_err-to-clause-refused : goal.returns-in_err-to-clause-refused
returns-in_err-to-clause-refused c =
    rw (← c.self.view_is)
    (passed_on c.from_residual.result c.in_err-to.field-0.0 _ c.from_residual.ensures.1 (rw (c.new-here.ensures, c.deref.ensures) at c.in_err-to.ensures.unmade))

pub returns-in_err-reserve-clause-refused : goal.returns-in_err-reserve-clause-refused
returns-in_err-reserve-clause-refused c = passed_on c.from_residual-in_err-reserve.result Memory _ c.from_residual-in_err-reserve.ensures.1 (unfollowed (not_told no_memory))

pub invariant_of-self-2 : goal.invariant_of-self-2
invariant_of-self-2 c =
    made_state _ _ _ _ _ _ _ _ c.self.invariant c.deref.ensures (rw c.new-here.ensures at c.in_ok-to.ensures.leads) (rw c.new-here.ensures at c.in_ok-to.ensures.in_game) c.reserve.ensures.items c.replace.ensures.value c.replace.ensures.after c.push_reserved.ensures.items
