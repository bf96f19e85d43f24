-- The text so far is that of the vertices so far.
use Rattle.std.proofs.Common.{◌≡◌, ◌++◌, length}
use Rattle.rbg_questions.specs.Shapes.{edge_lines}
use Rattle.rbg_questions.proofs.shape_writer.put_edges.Given as goal

abbrev pub invariant-loop-index : goal.invariant-loop-index
invariant-loop-index l = l.out.items ≡ l.fn.out.items ++ edge_lines l.game.board (length l.game.directions) l.index
