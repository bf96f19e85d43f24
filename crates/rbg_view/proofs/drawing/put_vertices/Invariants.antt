-- The text so far is that of the vertices so far.
use Rattle.std.proofs.Common.{◌≡◌, ◌++◌, take}
use Rattle.rbg_view.specs.Boards.{vertices_text}
use Rattle.rbg_view.proofs.drawing.put_vertices.Given as goal

abbrev pub invariant-loop-vertex : goal.invariant-loop-vertex
invariant-loop-vertex l = l.out.items ≡ l.fn.out.items ++ vertices_text l.drawn.game.now.pieces l.lengths l.drawn.marked.now (take l.vertex l.drawn.standing.now)
