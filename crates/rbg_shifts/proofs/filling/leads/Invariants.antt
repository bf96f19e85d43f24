-- From the vertices so far no step leads that way.
use Rattle.std.proofs.Common.{◌≡◌, ◌<◌, ◌≤◌, ℕ, true, false}
use Rattle.rbg_shifts.specs.internal.Steps.{Comes}
use Rattle.rbg_shifts.proofs.filling.leads.Given as goal

abbrev pub invariant-loop-index : goal.invariant-loop-index
invariant-loop-index l = record {
  back : l.later ≡ true → (v w : ℕ) → v < l.index → Comes l.ground v l.position w → w ≤ v;
  forth : l.later ≡ false → (v w : ℕ) → v < l.index → Comes l.ground v l.position w → v ≤ w;
}
