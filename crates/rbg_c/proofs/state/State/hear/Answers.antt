-- The move isn't legal, or the question was given up, or the state goes on.
use Rattle.rbg_base.proofs.Errors.{passed_on}
use Rattle.rbg_c.proofs.Places.{heard_state, hears_move}
use Rattle.rbg_c.proofs.state.State.hear.Goals as goal

pub returns-in_err-to-clause-refused : goal.returns-in_err-to-clause-refused
returns-in_err-to-clause-refused c =
    rw (← c.self.view_is)
    (passed_on c.from_residual.result c.in_err-to.field-0.0 _ c.from_residual.ensures.1 (rw (c.new-here.ensures, c.deref.ensures) at c.in_err-to.ensures.unfollowed))

pub invariant_of-self-2 : goal.invariant_of-self-2
invariant_of-self-2 c =
    heard_state _ _ _ _ _ _ c.self.invariant c.deref.ensures (rw c.new-here.ensures at c.in_ok-to.ensures.legal) (rw c.new-here.ensures at c.in_ok-to.ensures.in_game) c.clear.ensures.items c.replace.ensures.after

pub returns-clause-heard : goal.returns-clause-heard
returns-clause-heard c =
    rw (← c.self.view_is)
    (hears_move _ _ _ _ _ _ c.self.invariant c.deref.ensures (rw c.new-here.ensures at c.in_ok-to.ensures.legal) c.clear.ensures.items c.replace.ensures.after)
