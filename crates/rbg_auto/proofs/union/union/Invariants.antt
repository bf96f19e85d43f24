-- What the loop keeps: the lists as far as they were taken are merged.
use Rattle.std.proofs.Common.{◌+◌, ◌-◌, length}
use Rattle.rbg_auto.proofs.UnionLemmas.{MergedSoFar}
use Rattle.rbg_auto.proofs.union.union.Given as goal

abbrev pub invariant-loop-in_left : goal.invariant-loop-in_left
invariant-loop-in_left l = MergedSoFar l.left l.right l.all.items l.in_left l.in_right

abbrev pub decreases-loop-in_left : goal.decreases-loop-in_left
decreases-loop-in_left l = (length l.left - l.in_left) + (length l.right - l.in_right)
