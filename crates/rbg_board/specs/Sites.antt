-- How boards of rows are laid out: cell after cell along the rows, and for each cell direction after direction.
use Rattle.std.specs.Prelude.{◌≡◌, ℕ, zero, suc, ◌+◌, ◌-◌, ◌<◌, ◌≤◌, List, Option, Some, None, length, map, take, if◌then◌else◌, nat_lt}
use Rattle.std.specs.List.{range_with_len, concat}
use Rattle.rbg_board.specs.Graph.{Graph, next}
use Rattle.rbg_board.specs.Cells.{Rows, cells_in, IsCell, number_along}
use Rattle.rbg_board.specs.declared.rows.Site.{Site}

-- how many cells the row before the row r has: none if there is no such row
abbrev pub cells_above : Rows → ℕ → ℕ
cells_above rows zero = 0
cells_above rows (suc r) = cells_in rows r

-- the cell c of the row r, with the lengths of the rows around it
abbrev pub site_at : Rows → ℕ → ℕ → Site
site_at rows r c = record {
  start = length (concat (take r rows));
  above = cells_above rows r;
  here = cells_in rows r;
  below = cells_in rows (r + 1);
  cell = c;
}

-- the row above ends where the row of the site starts, and no vertex of the three rows is past the limit
pub record IsRow (site : Site) (limit : ℕ) : Type 0 where
  pub after_above : site.above ≤ site.start
  pub within : site.start + site.here + site.below ≤ limit

-- a site in such a row
pub record IsSite (site : Site) (limit : ℕ) : Type 0 where
  pub row : IsRow site limit
  pub cell_here : site.cell < site.here

-- the vertex of a cell, if it is there, in a row that begins at a vertex and has this many cells
abbrev pub vertex_in : (start cells : ℕ) → ℕ → Option ℕ
vertex_in start cells c = if nat_lt c cells then Some (start + c) else None

-- the vertex of a cell of the row above, of the site's own row and of the row below, if the cell is there
unfoldable pub vertex_above : Site → ℕ → Option ℕ
vertex_above site c = vertex_in (site.start - site.above) site.above c

unfoldable pub vertex_here : Site → ℕ → Option ℕ
vertex_here site c = vertex_in site.start site.here c

unfoldable pub vertex_below : Site → ℕ → Option ℕ
vertex_below site c = vertex_in (site.start + site.here) site.below c

-- where each direction below the width leads from a site
abbrev pub ways_from : (Site → ℕ → Option ℕ) → ℕ → Site → List (Option ℕ)
ways_from leads width site = map (λ d. leads site d) (range_with_len 0 width)

-- the sites of the first cells of a row
abbrev pub sites_along : Site → ℕ → List Site
sites_along row cells = map (λ c. record row { cell = c }) (range_with_len 0 cells)

-- the board of the rows on which each direction leads from each site as `leads` has it
pub record IsLaidOut (leads : Site → ℕ → Option ℕ) (width : ℕ) (rows : Rows) (board : Graph) : Type 0 where
  pub first_pieces : board.first ≡ concat rows
  pub ways : (r c d : ℕ)
      → IsCell rows r c
      → d < width
      → next board (number_along rows r c) d ≡ leads (site_at rows r c) d
  pub past : (v d : ℕ) → width ≤ d → next board v d ≡ None
  pub outside : (v d : ℕ) → length (concat rows) ≤ v → next board v d ≡ None
