-- The shifts so far lead to marked nodes, or to the node again.
use Rattle.std.proofs.Common.{◌<◌, ◌≢◌, ℕ, get_or}
use Rattle.rbg_shifts.proofs.Common.{IsShiftAt, IsMarked}
use Rattle.rbg_shifts.proofs.filling.is_ready.Given as goal

abbrev pub invariant-loop-listed : goal.invariant-loop-listed
invariant-loop-listed l = (i : ℕ) → i < l.listed-index → IsShiftAt l.ground.rules (get_or l.listed-items i 0) →
    get_or l.lists.afters.items (get_or l.listed-items i 0) 0 ≢ l.node →
    IsMarked l.filled (get_or l.lists.afters.items (get_or l.listed-items i 0) 0)
