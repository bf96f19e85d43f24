-- The count is that of the rows so far.
use Rattle.std.proofs.Common.{◌≡◌, ◌≤◌}
use Rattle.rbg_board.proofs.Common.{rows_of, most_vertices}
use Rattle.rbg_board.proofs.Numbering.{start_of}
use Rattle.rbg_board.proofs.rows.count_cells.Given as goal

-- the cells of the rows so far
abbrev pub invariant-loop-row : goal.invariant-loop-row
invariant-loop-row l = record {
  counted : l.count ≡ start_of (rows_of l.rows) l.row-index;
  fits : l.count ≤ most_vertices;
}
