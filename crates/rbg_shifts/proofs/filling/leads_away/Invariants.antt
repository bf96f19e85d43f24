-- None of the positions so far is a shift to the node.
use Rattle.std.proofs.Common.{◌<◌, ◌≢◌, ℕ, get_or}
use Rattle.rbg_shifts.specs.Leaps.{IsShiftAt}
use Rattle.rbg_shifts.proofs.filling.leads_away.Given as goal

abbrev pub invariant-loop-listed : goal.invariant-loop-listed
invariant-loop-listed l = (i : ℕ) → i < l.listed-index → IsShiftAt l.ground.rules (get_or l.listed-items i 0) →
    get_or l.lists.afters.items (get_or l.listed-items i 0) 0 ≢ l.node
