-- The pieces of the vertices so far.
use Rattle.std.proofs.Common.{◌≡◌, take}
use Rattle.rbg_state.proofs.occupancy.pieces_at_start.Given as goal

abbrev pub invariant-loop-vertex : goal.invariant-loop-vertex
invariant-loop-vertex l = l.pieces.items ≡ take l.vertex l.board.first
