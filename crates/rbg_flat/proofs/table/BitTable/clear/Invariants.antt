-- The size stays.
use Rattle.std.proofs.Common.{◌≡◌, length}
use Rattle.rbg_flat.proofs.table.BitTable.clear.Given as goal

abbrev pub invariant-loop-place : goal.invariant-loop-place
invariant-loop-place l = length l.self.words ≡ length l.fn.self.words

abbrev pub decreases-loop-place : goal.decreases-loop-place
decreases-loop-place l = length l.self.listed
