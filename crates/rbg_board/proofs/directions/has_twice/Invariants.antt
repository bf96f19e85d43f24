-- The directions so far differ.
use Rattle.std.proofs.Common.{◌≡◌, ℕ, ◌<◌, get_or}
use Rattle.rbg_board.proofs.directions.has_twice.Given as goal

-- the directions so far differ
abbrev pub invariant-loop-i : goal.invariant-loop-i
invariant-loop-i l = (j k : ℕ) → j < k → k < l.i → get_or l.directions j 0 ≡ get_or l.directions k 0 → ⊥
