-- The width is that of the directions so far.
use Rattle.std.proofs.Common.{◌≡◌, ◌≤◌, ◌^◌, take}
use Rattle.rbg_board.specs.Cells.{width_of}
use Rattle.rbg_board.proofs.directions.table_width.Given as goal

-- the width of the directions so far
abbrev pub invariant-loop-direction : goal.invariant-loop-direction
invariant-loop-direction l = record {
  width : l.width ≡ width_of (take l.direction-index l.directions);
  limit : l.width ≤ 2 ^ 16;
}
