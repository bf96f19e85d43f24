-- One more vertex.
use Rattle.rbg_view.proofs.Spots.{vertex_more}
use Rattle.rbg_view.proofs.drawing.put_vertices.Goals as goal

pub loop-vertex-preserved : goal.loop-vertex-preserved
loop-vertex-preserved c =
    vertex_more c.args.drawn.now.game.now.pieces c.args.lengths.now c.args.drawn.now.marked.now _ _ _ c.args.drawn.now.standing.now c.loop-vertex.vertex c.piece_name.result.now c.of-spot.result c.is_marked_at-is_marked.result c.loop-vertex-test.true c.loop-vertex.invariant c.piece_name.ensures c.of-spot.ensures c.is_marked_at-is_marked.ensures (rw c.as_bytes-name.ensures.value at c.in_ok-put_vertex.ensures)
