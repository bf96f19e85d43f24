-- What is forgotten was counted.
use Rattle.std.proofs.Common.{◌≡◌, ℕ, length}
use Rattle.rbg_flat.proofs.Common.{Counted, AreSizedFor, IsOpen}
use Rattle.rbg_flat.proofs.flat.Flat.count_met.Given as goal

abbrev pub invariant-loop-place : goal.invariant-loop-place
invariant-loop-place l = record {
  sized : AreSizedFor l.game l.self.sets;
  ends : l.self.ends ≡ l.fn.self.ends;
  closed : (v p : ℕ) → ¬ IsOpen l.self.sets v p;
  counted : Counted l.fn.self.sets l.self.sets l.many;
}

abbrev pub decreases-loop-place : goal.decreases-loop-place
decreases-loop-place l = length l.self.sets.touched
