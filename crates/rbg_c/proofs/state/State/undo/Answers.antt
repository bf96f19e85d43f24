-- Play has led to the place before the last move.
use Rattle.rbg_c.proofs.Places.{undone_state}
use Rattle.rbg_c.proofs.state.State.undo.Goals as goal

pub invariant_of-self : goal.invariant_of-self
invariant_of-self c = undone_state _ _ _ _ c.self.invariant c.in-Some.ensures.items c.replace.ensures.after
