-- Few doublings so far.
use Rattle.std.proofs.Common.{◌-◌, ◌≤◌}
use Rattle.rbg_flat.proofs.flat.doublings.Given as goal

abbrev pub invariant-loop-shift : goal.invariant-loop-shift
invariant-loop-shift l = l.shift ≤ 6

abbrev pub decreases-loop-shift : goal.decreases-loop-shift
decreases-loop-shift l = 6 - l.shift
