-- How a graph is written.
use Rattle.std.specs.Prelude.{ℕ, Bool, true, false, List, [], ◌∷◌, ◌++◌, codes, decimal, if◌then◌else◌}
use Rattle.std.specs.List.{flat_map}
use Rattle.rbg_import.specs.declared.board.Board.{Board}
use Rattle.rbg_import.specs.declared.board.Cell.{Cell}
use Rattle.rbg_import.specs.declared.board.Shape.{Shape}
use Rattle.rbg_import.specs.declared.board.Shape.TheVariants.{Rectangle, Cuboid}
use Rattle.rbg_import.specs.declared.graph.Edge.{Edge}
use Rattle.rbg_import.specs.declared.place.Place.{Place}
use Rattle.rbg_import.specs.Geometry.{edges_from}

-- the places of a rectangle have no number of a layer
abbrev pub is_flat : Shape → Bool
is_flat Rectangle = true
is_flat Cuboid = false

-- `x1y2`, or with the layer `x1y2z3`
abbrev pub place_name : Bool → Place → List ℕ
place_name flat p =
    ((codes "x" ++ decimal p.x) ++ (codes "y" ++ decimal p.y)) ++ (if flat then [] else codes "z" ++ decimal p.z)

-- `right: x1y0`
abbrev pub edge_text : Bool → Edge → List ℕ
edge_text flat e = (e.direction.now ++ codes ": ") ++ place_name flat e.to

-- edges with commas between them
abbrev pub edges_text : Bool → List Edge → List ℕ
edges_text flat [] = []
edges_text flat (e ∷ es) = edge_text flat e ++ flat_map (λ e. codes ", " ++ edge_text flat e) es

-- a vertex in a line of its own: `x0y0[piece]{right: x1y0}`
abbrev pub vertex_text : Board → Cell → List ℕ
vertex_text board c =
    let flat = is_flat board.shape in
    (codes "\n    " ++ place_name flat c.place) ++ (codes "[" ++ c.piece.now ++ codes "]{")
    ++ edges_text flat (edges_from board c.place) ++ codes "}"

-- The graph of a board: a vertex for each cell.
abbrev pub graph_text : Board → List ℕ
graph_text board = codes "graph(" ++ flat_map (vertex_text board) board.cells.items ++ codes ")"
