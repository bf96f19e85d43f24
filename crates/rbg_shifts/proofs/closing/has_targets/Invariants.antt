-- The entry has all vertices of the targets so far.
use Rattle.std.proofs.Common.{◌<◌, ◌≤◌, ℕ}
use Rattle.rbg_shifts.proofs.Common.{IsEndOf, target_at, HasEndAt}
use Rattle.rbg_shifts.proofs.closing.has_targets.Given as goal

abbrev pub invariant-loop-index : goal.invariant-loop-index
invariant-loop-index l = (i : ℕ) → l.fn.other.start ≤ i → i < l.index → (j u : ℕ) → IsEndOf (target_at l.table.targets.items i) j u → HasEndAt l.table l.entry j u
