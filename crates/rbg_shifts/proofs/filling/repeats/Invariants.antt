-- None of the positions so far is a shift that leads to the node that way.
use Rattle.std.proofs.Common.{◌≡◌, ◌<◌, ℕ, get_or, true, false}
use Rattle.rbg_shifts.proofs.Common.{IsShiftAt, StepsBack, StepsForth}
use Rattle.rbg_shifts.proofs.filling.repeats.Given as goal

abbrev pub invariant-loop-listed : goal.invariant-loop-listed
invariant-loop-listed l = record {
  back : l.later ≡ true → (i : ℕ) → i < l.listed-index → IsShiftAt l.ground.rules (get_or l.listed-items i 0) →
      get_or l.lists.afters.items (get_or l.listed-items i 0) 0 ≡ l.node → StepsBack l.ground (get_or l.listed-items i 0);
  forth : l.later ≡ false → (i : ℕ) → i < l.listed-index → IsShiftAt l.ground.rules (get_or l.listed-items i 0) →
      get_or l.lists.afters.items (get_or l.listed-items i 0) 0 ≡ l.node → StepsForth l.ground (get_or l.listed-items i 0);
}
