-- The width is that of the edges so far.
use Rattle.std.proofs.Common.{◌≡◌, ◌≤◌, ◌^◌, take}
use Rattle.rbg_board.proofs.Common.{width_of, directions_in}
use Rattle.rbg_board.proofs.graphs.edges_width.Given as goal

-- the width of the edges so far
abbrev pub invariant-loop-edge : goal.invariant-loop-edge
invariant-loop-edge l = record {
  width : l.width ≡ width_of (take l.edge-index (directions_in l.edges));
  limit : l.width ≤ 2 ^ 16;
}
