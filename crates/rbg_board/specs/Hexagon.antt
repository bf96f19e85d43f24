-- Hexagons: rows of cells that first grow and then shrink by one cell each, numbered along the rows.
use Rattle.std.specs.Prelude.{◌≡◌, ℕ, zero, suc, ◌+◌, ◌<◌, ◌≤◌, ◌⊎◌, List, [], ◌∷◌, length}
use Rattle.std.specs.List.{concat}
use Rattle.rbg_board.specs.Graph.{Graph, IsGraphOf}
use Rattle.rbg_board.specs.Cells.{Rows, cells_in, number_along}
use Rattle.rbg_board.specs.RowEdges.{RowsEdge}
use Rattle.rbg_board.specs.declared.error.BoardError.{BoardError}
use Rattle.rbg_board.specs.RowLaws.{MakesRows, RowsRefusal}

-- the points of the compass, in the order in which their directions are written
pub data Compass : Type 0 where
  NorthWest : Compass
  NorthEast : Compass
  East : Compass
  SouthEast : Compass
  SouthWest : Compass
  West : Compass

abbrev pub compass : List Compass
compass = NorthWest ∷ NorthEast ∷ East ∷ SouthEast ∷ SouthWest ∷ West ∷ []

abbrev pub compass_opposite : Compass → Compass
compass_opposite NorthWest = SouthEast
compass_opposite NorthEast = SouthWest
compass_opposite East = West
compass_opposite SouthEast = NorthWest
compass_opposite SouthWest = NorthEast
compass_opposite West = East

-- the row after r is longer by one cell
abbrev pub Grows : Rows → ℕ → Type 0
Grows rows r = cells_in rows (r + 1) ≡ cells_in rows r + 1

-- the row after r is shorter by one cell
abbrev pub Shrinks : Rows → ℕ → Type 0
Shrinks rows r = cells_in rows r ≡ cells_in rows (r + 1) + 1

-- South-west of the cell c is the cell c of a longer next row, and the cell c - 1 of a shorter one.
abbrev pub SouthWestStep : Rows → ℕ → ℕ → ℕ → ℕ → Type 0
SouthWestStep rows r c r' c' = (r' ≡ r + 1) × ((Grows rows r × (c' ≡ c)) ⊎ (Shrinks rows r × (c ≡ c' + 1)))

-- South-east of the cell c is the cell c + 1 of a longer next row, and the cell c of a shorter one.
abbrev pub SouthEastStep : Rows → ℕ → ℕ → ℕ → ℕ → Type 0
SouthEastStep rows r c r' c' = (r' ≡ r + 1) × ((Grows rows r × (c' ≡ c + 1)) ⊎ (Shrinks rows r × (c' ≡ c)))

-- one step that way, from the cell c of the row r to the cell c' of the row r'
abbrev pub CompassStep : Rows → Compass → ℕ → ℕ → ℕ → ℕ → Type 0
CompassStep rows NorthWest r c r' c' = SouthEastStep rows r' c' r c
CompassStep rows NorthEast r c r' c' = SouthWestStep rows r' c' r c
CompassStep rows East r c r' c' = (r' ≡ r) × (c' ≡ c + 1)
CompassStep rows SouthEast r c r' c' = SouthEastStep rows r c r' c'
CompassStep rows SouthWest r c r' c' = SouthWestStep rows r c r' c'
CompassStep rows West r c r' c' = (r' ≡ r) × (c ≡ c' + 1)

-- the edges of a hexagon: the direction d leads from the vertex v to the vertex u
abbrev pub HexagonEdge : List ℕ → Rows → ℕ → ℕ → ℕ → Type 0
HexagonEdge directions rows = RowsEdge compass (CompassStep rows) (number_along rows) directions rows

-- the board of a hexagon: its first pieces along the rows, and its edges
abbrev pub IsHexagon : List ℕ → Rows → Graph → Type 0
IsHexagon directions rows board = IsGraphOf board (concat rows) (HexagonEdge directions rows)

-- no row before r is longer than the row after it
abbrev pub NoneShrinksBefore : Rows → ℕ → Type 0
NoneShrinksBefore rows r = (k : ℕ) → k < r → cells_in rows k ≤ cells_in rows (k + 1)

-- the row r fits the rows above it: it is shorter by one cell than the row before it, or longer by one cell if no
-- earlier row was longer than the row after it
abbrev pub FitsAbove : Rows → ℕ → Type 0
FitsAbove rows zero = Unit {0}
FitsAbove rows (suc r) = Shrinks rows r ⊎ (Grows rows r × NoneShrinksBefore rows r)

-- there is a row, and each row has a cell
pub record HasCells (rows : Rows) : Type 0 where
  pub some_row : 0 < length rows
  pub each_row : (r : ℕ) → r < length rows → 0 < cells_in rows r

-- there is no row, or a row has no cell
abbrev pub LacksCell : Rows → Type 0
LacksCell rows = (length rows ≡ 0) ⊎ ((r : ℕ) × (r < length rows) × (cells_in rows r ≡ 0))

-- the rows first grow and then shrink
abbrev pub GrowsThenShrinks : Rows → Type 0
GrowsThenShrinks rows = (r : ℕ) → r < length rows → FitsAbove rows r

-- the row r is the first that does not fit the rows above it
pub record IsFirstMisfit (rows : Rows) (r : ℕ) : Type 0 where
  pub is_row : r < length rows
  pub misfits : ¬ FitsAbove rows r
  pub fits_before : (k : ℕ) → k < r → FitsAbove rows k

-- rows of a hexagon, and six directions, without a fault
abbrev pub MakesHexagon : List ℕ → Rows → Type 0
MakesHexagon = MakesRows HasCells GrowsThenShrinks

-- what each refusal means for the arguments
abbrev pub HexagonRefusal : List ℕ → Rows → BoardError → Type 0
HexagonRefusal = RowsRefusal HasCells LacksCell GrowsThenShrinks IsFirstMisfit
