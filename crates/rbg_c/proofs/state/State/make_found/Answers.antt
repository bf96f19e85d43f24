-- There is no such move, or the keeper's moves after it don't end, or there was no memory, or the state goes on.
use Rattle.std.proofs.Common.{arith, refl}
use Rattle.rbg_questions.specs.declared.question_error.QuestionError.TheVariants.{Memory}
use Rattle.rbg_questions.proofs.Faults.{stopped_at_once}
use Rattle.rbg_base.proofs.Errors.{passed_on}
use Rattle.rbg_c.specs.Stepping.{not_asked, stopped_there, too_few}
use Rattle.rbg_c.proofs.Found.{legal_found}
use Rattle.rbg_c.proofs.Places.{made_state}
use Rattle.rbg_c.proofs.state.State.make_found.Goals as goal

pub returns-in_default-clause-refused : goal.returns-in_default-clause-refused
returns-in_default-clause-refused c = rw (← c.self.view_is) (not_asked c.in_default.is)

pub returns-then-len-index-clause-refused : goal.returns-then-len-index-clause-refused
returns-then-len-index-clause-refused c =
    rw (← c.self.view_is) (too_few c.in-Some.is (omega (arith, c.len.ensures.count, c.if-len-index.true)))

pub step-requires : goal.step-requires
step-requires c = rw c.new-here.ensures (legal_found _ _ _ _ _ c.self.invariant c.deref.ensures c.in-Some.is c.get.ensures.pairs)

pub returns-in_err-to-clause-refused : goal.returns-in_err-to-clause-refused
returns-in_err-to-clause-refused c =
    rw (← c.self.view_is)
    (passed_on c.from_residual.result c.in_err-to.field-0.0 _ c.from_residual.ensures.1
    (stopped_there c.in-Some.is c.get.ensures.pairs (rw (c.new-here.ensures, c.deref.ensures) at c.in_err-to.ensures.stopped)))

pub returns-in_err-reserve-clause-refused : goal.returns-in_err-reserve-clause-refused
returns-in_err-reserve-clause-refused c =
    rw (← c.self.view_is)
    (passed_on c.from_residual-in_err-reserve.result Memory _ c.from_residual-in_err-reserve.ensures.1
    (stopped_there c.in-Some.is c.get.ensures.pairs (stopped_at_once _ _ _ (legal_found _ _ _ _ _ c.self.invariant refl c.in-Some.is c.get.ensures.pairs))))

pub invariant_of-self-2 : goal.invariant_of-self-2
invariant_of-self-2 c =
    made_state _ _ _ _ _ _ _ _ c.self.invariant c.deref.ensures (rw c.new-here.ensures at c.in_ok-to.ensures.leads) (rw c.new-here.ensures at c.in_ok-to.ensures.in_game) c.reserve.ensures.items c.replace.ensures.value c.replace.ensures.after c.push_reserved.ensures.items
