-- So far the pieces are the same.
use Rattle.std.proofs.Common.{◌≡◌, take}
use Rattle.rbg_position.proofs.same_board.stand_at_start.Given as goal

abbrev pub invariant-loop-vertex : goal.invariant-loop-vertex
invariant-loop-vertex l = take l.vertex l.board.first ≡ take l.vertex l.pieces
