-- The edges so far are those of the directions so far.
use Rattle.std.proofs.Common.{◌≡◌, take, flat_map}
use Rattle.rbg_import.specs.Geometry.{edges_along}
use Rattle.rbg_import.proofs.graph.edges_of.Given as goal

abbrev pub invariant-loop-direction : goal.invariant-loop-direction
invariant-loop-direction l = l.edges.items ≡ flat_map (edges_along l.board.cells.items l.from) (take l.direction-index l.board.directions.items)
