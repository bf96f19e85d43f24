-- How a board is drawn: its vertices as groups of an SVG, which the page's style puts in their places.
use Rattle.std.specs.Prelude.{ℕ, Bool, ◌+◌, ◌-◌, ◌==◌, max, nat_lt, if◌then◌else◌, List, [], ◌∷◌, ◌++◌, length, slice_index_or, codes}
use Rattle.std.specs.Prelude.{Vec}
use Rattle.std.specs.Global.{Global}
use Rattle.std.specs.List.{flat_map, enumerate_from, list_any}
use Rattle.rbg_game.specs.NameTables.{bytes_of}
use Rattle.rbg_game.specs.declared.layout.Layout.{Layout}
use Rattle.rbg_game.specs.declared.layout.Layout.TheVariants.{Rectangle, Hexagon, Graph}
use Rattle.rbg_view.specs.declared.drawing.Spot.{Spot}
use Rattle.rbg_view.specs.Texts.{escaped, field_text}

-- the spot of a vertex in rows of these lengths, the first of which has this number
abbrev pub spot_from : (row : ℕ) → (lengths : List ℕ) → (vertex : ℕ) → Spot
spot_from row [] vertex = record { column = vertex; row = row; length = 0 }
spot_from row (here ∷ lengths) vertex =
    if nat_lt vertex here then (record { column = vertex; row = row; length = here })
    else spot_from (row + 1) lengths (vertex - here)

-- the greatest of these lengths
abbrev pub widest : List ℕ → ℕ
widest [] = 0
widest (here ∷ lengths) = max here (widest lengths)

-- the spot and the number of a piece, for the page's style
unfoldable pub spot_text : Spot → (piece : ℕ) → List ℕ
spot_text spot piece =
    field_text (codes "<g style='--x:") spot.column
    ++ field_text (codes ";--y:") spot.row
    ++ field_text (codes ";--l:") spot.length
    ++ field_text (codes ";--p:") piece
    ++ codes "' data-piece='"

-- one of these pairs is on the vertex
abbrev pub is_marked : List (ℕ × ℕ) → (vertex : ℕ) → Bool
is_marked pairs vertex = list_any (λ pair. pair.0 == vertex) pairs

-- the end of a vertex's first tag
abbrev pub mark_text : Bool → List ℕ
mark_text marked = if marked then codes "' class='marked'>" else codes "'>"

-- A vertex with the piece of this name on it: its cell, a disc, and the name.
unfoldable pub vertex_text : (name : List ℕ) → Spot → (marked : Bool) → (piece : ℕ) → List ℕ
vertex_text name spot marked piece =
    spot_text spot piece
    ++ escaped name
    ++ mark_text marked
    ++ codes "<use href='#cell'/><circle r='4'/><text>"
    ++ escaped name
    ++ codes "</text></g>\n"

-- a vertex by its number, with the piece on it; it is marked if one of the pairs is on it
abbrev pub numbered_text : (pieces : List (List ℕ)) → (lengths : List ℕ) → (marked : List (ℕ × ℕ)) → ℕ × ℕ → List ℕ
numbered_text pieces lengths marked one =
    vertex_text (slice_index_or pieces one.1 []) (spot_from 0 lengths one.0) (is_marked marked one.0) one.1

-- the vertices with the pieces on them, in order
abbrev pub vertices_text : (pieces : List (List ℕ)) → (lengths : List ℕ) → (marked : List (ℕ × ℕ)) → List ℕ → List ℕ
vertices_text pieces lengths marked standing = flat_map (numbered_text pieces lengths marked) (enumerate_from 0 standing)

-- the name of a vertex of a graph
unfoldable pub label_text : ℕ × List ℕ → List ℕ
label_text one =
    field_text (codes "<g class='label' style='--x:") one.0
    ++ codes "'><text y='6.5'>"
    ++ escaped one.1
    ++ codes "</text></g>\n"

abbrev pub labels_text : List (List ℕ) → List ℕ
labels_text names = flat_map label_text (enumerate_from 0 names)

-- how many cells a drawing is wide and high
unfoldable pub size_text : (width height : ℕ) → List ℕ
size_text width height =
    field_text (codes "' style='--w:") width
    ++ field_text (codes "' viewBox='0 0 ") width
    ++ field_text (codes "0 ") height

-- The beginning of a drawing: how it is laid out, its size, and what a cell looks like.
unfoldable pub frame_text : (kind : List ℕ) → (width height : ℕ) → (cell : List ℕ) → List ℕ
frame_text kind width height cell =
    codes "<svg id='board' class='"
    ++ kind
    ++ size_text width height
    ++ codes "0'><defs>"
    ++ cell
    ++ codes "</defs>\n"

-- the vertices in rows of these lengths, in a frame of this kind with this cell
unfoldable pub rows_text : (kind cell : List ℕ) → (pieces : List (List ℕ)) → (lengths : List ℕ) → (marked : List (ℕ × ℕ)) → List ℕ → List ℕ
rows_text kind cell pieces lengths marked standing =
    frame_text kind (widest lengths) (length lengths) cell ++ vertices_text pieces lengths marked standing

-- the drawing of a graph, whose vertices lie on a circle with their names
unfoldable pub graph_text : (pieces : List (List ℕ)) → (names : List (Vec ℕ Global)) → (marked : List (ℕ × ℕ)) → List ℕ → List ℕ
graph_text pieces names marked standing =
    frame_text (codes "graph") (length names) (length names) (codes "<circle id='cell' r='5'/>")
    ++ vertices_text pieces (length names ∷ []) marked standing
    ++ labels_text (bytes_of names)

-- The drawing of a board with these pieces on its vertices, some of them marked.
abbrev pub drawing_text : Layout → (pieces : List (List ℕ)) → (marked : List (ℕ × ℕ)) → List ℕ → List ℕ
drawing_text (Rectangle rows) pieces marked standing =
    rows_text (codes "square") (codes "<path id='cell' d='M-5-5h10v10h-10z'/>") pieces rows.items marked standing
drawing_text (Hexagon rows) pieces marked standing =
    rows_text (codes "hexagon") (codes "<path id='cell' d='M0-5.77 5-2.89 5 2.89 0 5.77-5 2.89-5-2.89z'/>")
    pieces rows.items marked standing
drawing_text (Graph names) pieces marked standing = graph_text pieces names.items marked standing
