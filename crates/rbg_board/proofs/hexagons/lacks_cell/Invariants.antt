-- The rows so far have cells.
use Rattle.std.proofs.Common.{ℕ, ◌<◌}
use Rattle.rbg_board.specs.Cells.{rows_of, cells_in}
use Rattle.rbg_board.proofs.hexagons.lacks_cell.Given as goal

-- each row so far has a cell
abbrev pub invariant-loop-row : goal.invariant-loop-row
invariant-loop-row l = (k : ℕ) → k < l.row-index → 0 < cells_in (rows_of l.rows) k
