-- Cells in rows, from top to bottom: a row is the list of its cells' first pieces.
use Rattle.std.specs.Prelude.{◌≡◌, ◌≢◌, ℕ, ◌+◌, ◌<◌, max, List, [], ◌∷◌, length, map, take, slice_index, slice_index_or, Vec}
use Rattle.std.specs.List.{concat}

abbrev pub Rows : Type 0
Rows = List (List ℕ)

-- the rows that a slice of vectors holds
abbrev pub rows_of : {Z : Type 0} → List (Vec ℕ Z) → Rows
rows_of rows = map (λ row. row.items) rows

-- how many cells the row r has: none if there is no such row
abbrev pub cells_in : Rows → ℕ → ℕ
cells_in rows r = length (slice_index_or rows r [])

-- the cell c of the row r is there
abbrev pub IsCell : Rows → ℕ → ℕ → Type 0
IsCell rows r c = c < cells_in rows r

-- the number of the cell c of the row r, if the cells are numbered along the rows
abbrev pub number_along : Rows → ℕ → ℕ → ℕ
number_along rows r c = length (concat (take r rows)) + c

-- the number of directions up to the maximum of a list: none if the list is empty
abbrev pub width_of : List ℕ → ℕ
width_of [] = 0
width_of (direction ∷ directions) = max (direction + 1) (width_of directions)

-- two entries of a list are equal
pub record HasTwice (xs : List ℕ) : Type 0 where
  pub earlier : ℕ
  pub later : ℕ
  pub apart : earlier < later
  pub within : later < length xs
  pub same : slice_index xs earlier ≡ slice_index xs later

-- no two entries of a list are equal
unfoldable pub AreDifferent : List ℕ → Type 0
AreDifferent xs = (i j : ℕ) → i < j → j < length xs → slice_index xs i ≢ slice_index xs j
