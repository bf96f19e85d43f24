-- Rectangles: rows of cells, all of one length n. The cell c of the row r is the vertex r * n + c.
use Rattle.std.specs.Prelude.{◌≡◌, ◌≢◌, ℕ, ◌+◌, ◌*◌, ◌<◌, List, [], ◌∷◌, length}
use Rattle.std.specs.List.{concat}
use Rattle.rbg_board.specs.Graph.{Graph, IsGraphOf}
use Rattle.rbg_board.specs.Cells.{Rows, cells_in, IsCell}
use Rattle.rbg_board.specs.RowEdges.{RowsEdge}
use Rattle.rbg_board.specs.declared.error.BoardError.{BoardError}
use Rattle.rbg_board.specs.RowLaws.{MakesRows, RowsRefusal}

-- the sides of a cell, in the order in which their directions are written
pub data RectangleSide : Type 0 where
  Up : RectangleSide
  Down : RectangleSide
  Left : RectangleSide
  Right : RectangleSide

abbrev pub sides : List RectangleSide
sides = Up ∷ Down ∷ Left ∷ Right ∷ []

abbrev pub side_opposite : RectangleSide → RectangleSide
side_opposite Up = Down
side_opposite Down = Up
side_opposite Left = Right
side_opposite Right = Left

-- one step out of that side, from the cell c of the row r to the cell c' of the row r'
abbrev pub SideStep : RectangleSide → ℕ → ℕ → ℕ → ℕ → Type 0
SideStep Up r c r' c' = (r ≡ r' + 1) × (c' ≡ c)
SideStep Down r c r' c' = (r' ≡ r + 1) × (c' ≡ c)
SideStep Left r c r' c' = (r' ≡ r) × (c ≡ c' + 1)
SideStep Right r c r' c' = (r' ≡ r) × (c' ≡ c + 1)

-- the edges of a rectangle: the direction d leads from the vertex v to the vertex u
abbrev pub RectangleEdge : List ℕ → Rows → ℕ → ℕ → ℕ → Type 0
RectangleEdge directions rows = RowsEdge sides SideStep (λ r c. r * cells_in rows 0 + c) directions rows

-- the board of a rectangle: its first pieces along the rows, and its edges
abbrev pub IsRectangle : List ℕ → Rows → Graph → Type 0
IsRectangle directions rows board = IsGraphOf board (concat rows) (RectangleEdge directions rows)

-- every row is as long as the first
abbrev pub IsEven : Rows → Type 0
IsEven rows = (r : ℕ) → r < length rows → cells_in rows r ≡ cells_in rows 0

-- the row r is the first that is not as long as row 0
pub record IsFirstUneven (rows : Rows) (r : ℕ) : Type 0 where
  pub is_row : r < length rows
  pub uneven : cells_in rows r ≢ cells_in rows 0
  pub even_before : (k : ℕ) → k < r → cells_in rows k ≡ cells_in rows 0

-- there is a row, and row 0 has a cell
abbrev pub HasFirstCell : Rows → Type 0
HasFirstCell rows = IsCell rows 0 0

-- there is no row, or row 0 has no cell
abbrev pub LacksFirstCell : Rows → Type 0
LacksFirstCell rows = cells_in rows 0 ≡ 0

-- rows of a rectangle, and four directions, without a fault
abbrev pub MakesRectangle : List ℕ → Rows → Type 0
MakesRectangle = MakesRows HasFirstCell IsEven

-- what each refusal means for the arguments
abbrev pub RectangleRefusal : List ℕ → Rows → BoardError → Type 0
RectangleRefusal = RowsRefusal HasFirstCell LacksFirstCell IsEven IsFirstUneven
