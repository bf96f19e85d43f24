-- The text so far is that of the cells so far.
use Rattle.std.proofs.Common.{◌≡◌, ◌++◌, take, flat_map}
use Rattle.rbg_import.specs.Graphs.{vertex_text}
use Rattle.rbg_import.proofs.graph.push_vertices.Given as goal

abbrev pub invariant-loop-cell : goal.invariant-loop-cell
invariant-loop-cell l = l.output.items ≡ l.fn.output.items ++ flat_map (vertex_text l.board) (take l.cell-index l.board.cells.items)
