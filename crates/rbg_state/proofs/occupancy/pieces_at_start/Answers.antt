use Rattle.rbg_base.proofs.Common.{◌<◌, length, arith, take_more, get_or_from_slice_get}
use Rattle.rbg_state.proofs.occupancy.pieces_at_start.Goals as goal

pub loop-vertex-preserved : goal.loop-vertex-preserved
loop-vertex-preserved c =
    let vertex = c.loop-vertex.vertex in
    let first = c.args.board.now.first in
    let is_vertex : vertex < length first = omega arith in
    let more = take_more first vertex 0 is_vertex in
    let piece = get_or_from_slice_get first vertex c.piece_at_start.result 0 c.piece_at_start.ensures in
    let pushed = c.in_ok-push.ensures in
    let before = c.loop-vertex.invariant in
    cc
