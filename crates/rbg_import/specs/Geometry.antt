-- The places of a board's cells, and the edges between them.
use Rattle.std.specs.Prelude.{ℕ, ◌+◌, Bool, ◌==◌, ◌&&◌, List, [], ◌∷◌, if◌then◌else◌}
use Rattle.std.specs.List.{flat_map}
use Rattle.rbg_import.specs.declared.board.Board.{Board}
use Rattle.rbg_import.specs.declared.board.Cell.{Cell}
use Rattle.rbg_import.specs.declared.board.Direction.{Direction}
use Rattle.rbg_import.specs.declared.graph.Edge.{Edge}
use Rattle.rbg_import.specs.declared.place.Place.{Place}
use Rattle.rbg_import.specs.declared.place.Way.{Way}
use Rattle.rbg_import.specs.declared.place.Way.TheVariants.{RowBefore, RowAfter, CellBefore, CellAfter, LayerBefore, LayerAfter}

-- The way leads from the first place to the second. Rows follow one another downwards, cells from the left, layers from
-- the first one.
abbrev pub leads : Way → Place → Place → Bool
leads RowBefore a b = (a.y == b.y + 1) && (a.x == b.x) && (a.z == b.z)
leads RowAfter a b = (b.y == a.y + 1) && (a.x == b.x) && (a.z == b.z)
leads CellBefore a b = (a.x == b.x + 1) && (a.y == b.y) && (a.z == b.z)
leads CellAfter a b = (b.x == a.x + 1) && (a.y == b.y) && (a.z == b.z)
leads LayerBefore a b = (a.z == b.z + 1) && (a.x == b.x) && (a.y == b.y)
leads LayerAfter a b = (b.z == a.z + 1) && (a.x == b.x) && (a.y == b.y)

-- the edge of a place in a direction to a cell, if it leads there
abbrev pub edge_to : Place → Direction → Cell → List Edge
edge_to from d c =
    if leads d.way from c.place then record { direction = d.name; to = c.place } ∷ [] else []

-- the edges of a place in a direction
abbrev pub edges_along : List Cell → Place → Direction → List Edge
edges_along cells from d = flat_map (edge_to from d) cells

-- The edges of a place: for each direction of the board in order those to the cells to which it leads.
abbrev pub edges_from : Board → Place → List Edge
edges_from board from = flat_map (edges_along board.cells.items from) board.directions.items
