-- The rows so far are as long as the first.
use Rattle.std.proofs.Common.{◌≡◌, ℕ, ◌<◌}
use Rattle.rbg_board.specs.Cells.{rows_of, cells_in}
use Rattle.rbg_board.proofs.rectangles.first_uneven.Given as goal

-- the rows so far are as long as row 0
abbrev pub invariant-loop-r : goal.invariant-loop-r
invariant-loop-r l = (k : ℕ) → k < l.r → cells_in (rows_of l.rows) k ≡ cells_in (rows_of l.rows) 0
