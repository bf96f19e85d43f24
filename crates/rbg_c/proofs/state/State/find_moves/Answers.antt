-- All moves were found.
use Rattle.std.proofs.Common.{arith}
use Rattle.rbg_c.proofs.Found.{found_state, finds_moves}
use Rattle.rbg_c.proofs.state.State.find_moves.Goals as goal

pub invariant_of-self-2 : goal.invariant_of-self-2
invariant_of-self-2 c =
    found_state _ _ _ _ _ _ c.self.invariant c.deref.ensures (rw c.new-here.ensures at c.in_ok-gathered.ensures.gathered) c.len-count.ensures.count c.len-count.ensures.small (omega arith)

pub returns-clause-found : goal.returns-clause-found
returns-clause-found c =
    rw (← c.self.view_is)
    (finds_moves _ _ _ _ _ _ c.self.invariant c.deref.ensures (rw c.new-here.ensures at c.in_ok-gathered.ensures.gathered) c.len-count.ensures.count c.len-count.ensures.small (omega arith))
