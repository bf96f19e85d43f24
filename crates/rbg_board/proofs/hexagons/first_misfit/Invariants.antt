-- The rows so far fit, and grow until they shrink.
use Rattle.std.proofs.Common.{ℕ, ◌+◌, ◌<◌, ◌≤◌, MatchBool}
use Rattle.rbg_board.proofs.Common.{rows_of, cells_in, FitsAbove, Shrinks}
use Rattle.rbg_board.proofs.hexagons.first_misfit.Given as goal

-- each row so far fits, and the flag is set if one of them was shorter than the row before it
abbrev pub invariant-loop-row : goal.invariant-loop-row
invariant-loop-row l = record {
  fits : (k : ℕ) → k < l.row → FitsAbove (rows_of l.rows) k;
  shrinking : MatchBool l.shrinking ((k : ℕ) × (k + 1 < l.row) × Shrinks (rows_of l.rows) k) ((k : ℕ) → k + 1 < l.row → cells_in (rows_of l.rows) k ≤ cells_in (rows_of l.rows) (k + 1));
}
