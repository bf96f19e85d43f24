-- Laws of the edges of boards.
use Rattle.std.specs.Prelude.{◌≡◌, ℕ, List, length}
use Rattle.rbg_board.specs.Cells.{Rows, AreDifferent}
use Rattle.rbg_board.specs.Rectangle.{sides, side_opposite, RectangleEdge, MakesRectangle}
use Rattle.rbg_board.specs.Hexagon.{compass, compass_opposite, HexagonEdge, MakesHexagon}
use Rattle.rbg_board.specs.RowEdges.{IsDirectionOf}
use Rattle.rbg_board.specs.Written.{Written, WrittenEdge, MakesGraph}

-- from a vertex a direction leads to one vertex at most
abbrev pub LeadsOneWay : (ℕ → ℕ → ℕ → Type 0) → Type 0
LeadsOneWay Edge = (v d u w : ℕ) → Edge v d u → Edge v d w → u ≡ w

-- the same of boards of rows with this many directions
abbrev pub RowsLeadOneWay : ℕ → (List ℕ → Rows → Type 0) → (List ℕ → Rows → ℕ → ℕ → ℕ → Type 0) → Type 0
RowsLeadOneWay count Makes Edge =
    (directions : List ℕ) (rows : Rows)
    → length directions ≡ count
    → Makes directions rows
    → LeadsOneWay (Edge directions rows)

abbrev pub RectanglesLeadOneWay : Type 0
RectanglesLeadOneWay = RowsLeadOneWay 4 MakesRectangle RectangleEdge

abbrev pub HexagonsLeadOneWay : Type 0
HexagonsLeadOneWay = RowsLeadOneWay 6 MakesHexagon HexagonEdge

abbrev pub GraphsLeadOneWay : Type 0
GraphsLeadOneWay = (vertices : List Written) → MakesGraph vertices → LeadsOneWay (WrittenEdge vertices)

-- Every edge of a board of rows has a way back. If d is the direction of a way and b that of the opposite one, each
-- edge in the direction d from v to u has one in the direction b from u to v.
abbrev pub RowsLeadBack : {Way : Type 0} → List Way → (Way → Way) → (List ℕ → Rows → ℕ → ℕ → ℕ → Type 0) → Type 0
RowsLeadBack {Way} ways opposite Edge =
    (directions : List ℕ) → length directions ≡ length ways → AreDifferent directions
    → (way : Way) (d b : ℕ) → IsDirectionOf ways directions way d → IsDirectionOf ways directions (opposite way) b
    → (rows : Rows) (v u : ℕ) → Edge directions rows v d u → Edge directions rows u b v

abbrev pub RectanglesLeadBack : Type 0
RectanglesLeadBack = RowsLeadBack sides side_opposite RectangleEdge

abbrev pub HexagonsLeadBack : Type 0
HexagonsLeadBack = RowsLeadBack compass compass_opposite HexagonEdge
