-- The width is that of the cells so far.
use Rattle.std.proofs.Common.{◌≡◌, ◌≤◌, ◌^◌, take}
use Rattle.rbg_board.proofs.Common.{width_of, directions_of, written_of}
use Rattle.rbg_board.proofs.graphs.cells_width.Given as goal

-- the width of the cells so far
abbrev pub invariant-loop-cell : goal.invariant-loop-cell
invariant-loop-cell l = record {
  width : l.width ≡ width_of (directions_of (take l.cell-index (written_of l.cells)));
  limit : l.width ≤ 2 ^ 16;
}
