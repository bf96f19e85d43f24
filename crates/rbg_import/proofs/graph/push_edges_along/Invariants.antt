-- The edges so far are those to the cells so far.
use Rattle.std.proofs.Common.{◌≡◌, ◌++◌, take, flat_map}
use Rattle.rbg_import.specs.Geometry.{edge_to}
use Rattle.rbg_import.proofs.graph.push_edges_along.Given as goal

abbrev pub invariant-loop-cell : goal.invariant-loop-cell
invariant-loop-cell l = l.edges.items ≡ l.fn.edges.items ++ flat_map (edge_to l.from l.direction) (take l.cell-index l.cells)
