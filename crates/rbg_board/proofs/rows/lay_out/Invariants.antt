-- The first pieces and the table have the rows so far.
use Rattle.rbg_base.proofs.Common.{◌≡◌, take, concat}
use Rattle.rbg_board.proofs.Common.{rows_of, cells_above}
use Rattle.rbg_board.proofs.Layouts.{table_of}
use Rattle.rbg_board.proofs.rows.lay_out.Given as goal

-- the first pieces and the table of the rows so far, and how long the last of them is
abbrev pub invariant-loop-r : goal.invariant-loop-r
invariant-loop-r g l = record {
  first : l.first.items ≡ concat (take l.r (rows_of l.rows));
  table : l.table.items ≡ table_of (g.S.Shape.leads l.shape) l.width (rows_of l.rows) l.r;
  above : l.above ≡ cells_above (rows_of l.rows) l.r;
}
