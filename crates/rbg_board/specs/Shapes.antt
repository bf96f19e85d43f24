-- Where each direction leads from a site of a rectangle and of a hexagon.
use Rattle.std.specs.Prelude.{ℕ, zero, suc, ◌+◌, ◌-◌, ◌<◌, ◌≤◌, List, [], ◌∷◌, Option, Some, None, IfSome, map, if◌then◌else◌, ◌==◌, nat_lt, slice_index}
use Rattle.std.proofs.Common.{arith}
use Rattle.std.proofs.lemmas.Bool.{cond_both, ltb-true}
use Rattle.rbg_board.specs.Sites.{IsRow, IsSite, vertex_above, vertex_here, vertex_below, vertex_in}
use Rattle.rbg_board.specs.Rectangle.{RectangleSide, Up, Down, Left, Right, sides}
use Rattle.rbg_board.specs.Hexagon.{Compass, NorthWest, NorthEast, East, SouthEast, SouthWest, West, compass}
use Rattle.rbg_board.specs.declared.rows.Site.{Site}

-- the cell before a cell, if there is one
abbrev pub cell_before : ℕ → Option ℕ
cell_before zero = None
cell_before (suc c) = Some c

-- the vertex at a cell that may be none
abbrev pub at_cell : (ℕ → Option ℕ) → Option ℕ → Option ℕ
at_cell vertex None = None
at_cell vertex (Some c) = vertex c

-- the vertex at the place of the first direction that is d
abbrev pub choose : List ℕ → List (Option ℕ) → ℕ → Option ℕ
choose [] vertices d = None
choose (k ∷ ks) [] d = None
choose (k ∷ ks) (vertex ∷ vertices) d = if d == k then vertex else choose ks vertices d

-- the first numbers of a list
abbrev pub first_four : List ℕ → List ℕ
first_four xs = slice_index xs 0 ∷ slice_index xs 1 ∷ slice_index xs 2 ∷ slice_index xs 3 ∷ []

abbrev pub first_six : List ℕ → List ℕ
first_six xs =
    slice_index xs 0
    ∷ slice_index xs 1
    ∷ slice_index xs 2
    ∷ slice_index xs 3
    ∷ slice_index xs 4
    ∷ slice_index xs 5
    ∷ []

-- the vertex on each side of a site
abbrev pub side_vertex : Site → RectangleSide → Option ℕ
side_vertex site Up = vertex_above site site.cell
side_vertex site Down = vertex_below site site.cell
side_vertex site Left = at_cell (vertex_here site) (cell_before site.cell)
side_vertex site Right = vertex_here site (site.cell + 1)

-- where the four directions lead
unfoldable pub rectangle_leads : List ℕ → Site → ℕ → Option ℕ
rectangle_leads directions site d = choose (first_four directions) (map (side_vertex site) sides) d

-- The cell to the left and the cell to the right of a hexagon's site, in a row above or below with a number of cells.
-- In a longer row the cell to the left has the number of the site's cell, in a shorter row the one to the right.
unfoldable pub cell_left : Site → ℕ → Option ℕ
cell_left site cells = if nat_lt site.here cells then Some site.cell else cell_before site.cell

unfoldable pub cell_right : Site → ℕ → ℕ
cell_right site cells = if nat_lt site.here cells then site.cell + 1 else site.cell

-- the vertex each way from a site
abbrev pub way_vertex : Site → Compass → Option ℕ
way_vertex site NorthWest = at_cell (vertex_above site) (cell_left site site.above)
way_vertex site NorthEast = vertex_above site (cell_right site site.above)
way_vertex site East = vertex_here site (site.cell + 1)
way_vertex site SouthEast = vertex_below site (cell_right site site.below)
way_vertex site SouthWest = at_cell (vertex_below site) (cell_left site site.below)
way_vertex site West = at_cell (vertex_here site) (cell_before site.cell)

-- where the six directions lead
unfoldable pub hexagon_leads : List ℕ → Site → ℕ → Option ℕ
hexagon_leads directions site d = choose (first_six directions) (map (way_vertex site) compass) d

-- a vertex that may be none, and is below a limit if there is one
abbrev IsBelow : ℕ → Option ℕ → Type 0
IsBelow limit vertex = IfSome vertex (λ u. u < limit)

-- a choice among the vertices of ways
choose_below : {Way : Type 0} (limit : ℕ) (vertex : Way → Option ℕ)
    → ((way : Way) → IsBelow limit (vertex way))
    → (ks : List ℕ) (ways : List Way) (d : ℕ)
    → IsBelow limit (choose ks (map vertex ways) d)
choose_below limit vertex each [] ways d = tt
choose_below limit vertex each (k ∷ ks) [] d = tt
choose_below limit vertex each (k ∷ ks) (way ∷ ways) d =
    cond_both (d == k) (vertex way) (choose ks (map vertex ways) d) (IsBelow limit)
    (λ _. each way)
    (λ _. choose_below limit vertex each ks ways d)

-- a vertex of a range that ends below the limit
within : (limit start c size : ℕ)
    → start + size ≤ limit
    → IsBelow limit (vertex_in start size c)
within limit start c size fits =
    cond_both (nat_lt c size) (Some (start + c)) None (IsBelow limit)
    (λ test. let below : c < size = ltb-true c size test in omega arith)
    (λ _. tt)

at_cell_below : (limit : ℕ) (vertex : ℕ → Option ℕ) (cell : Option ℕ)
    → ((c : ℕ) → IsBelow limit (vertex c))
    → IsBelow limit (at_cell vertex cell)
at_cell_below limit vertex None each = tt
at_cell_below limit vertex (Some c) each = each c

module _ (site : Site) (limit : ℕ) (row : IsRow site limit) where
  above_below : (c : ℕ) → IsBelow limit (vertex_above site c)
  unfolding vertex_above
  above_below c = within limit (site.start - site.above) c site.above (omega (arith, row.after_above, row.within))

  here_below : (c : ℕ) → IsBelow limit (vertex_here site c)
  unfolding vertex_here
  here_below c = within limit site.start c site.here (omega (arith, row.within))

  below_below : (c : ℕ) → IsBelow limit (vertex_below site c)
  unfolding vertex_below
  below_below c = within limit (site.start + site.here) c site.below (omega (arith, row.within))

  side_below : (side : RectangleSide) → IsBelow limit (side_vertex site side)
  side_below Up = above_below site.cell
  side_below Down = below_below site.cell
  side_below Left = at_cell_below limit (vertex_here site) (cell_before site.cell) here_below
  side_below Right = here_below (site.cell + 1)

  way_below : (way : Compass) → IsBelow limit (way_vertex site way)
  way_below NorthWest = at_cell_below limit (vertex_above site) (cell_left site site.above) above_below
  way_below NorthEast = above_below (cell_right site site.above)
  way_below East = here_below (site.cell + 1)
  way_below SouthEast = below_below (cell_right site site.below)
  way_below SouthWest = at_cell_below limit (vertex_below site) (cell_left site site.below) below_below
  way_below West = at_cell_below limit (vertex_here site) (cell_before site.cell) here_below

-- no direction leads past a limit
abbrev pub LeadsWithin : (Site → ℕ → Option ℕ) → Type 0
LeadsWithin leads = (site : Site) (d limit : ℕ) → IsSite site limit → IfSome (leads site d) (λ u. u < limit)

pub rectangle_leads_within : (directions : List ℕ) → LeadsWithin (rectangle_leads directions)
unfolding rectangle_leads
rectangle_leads_within directions site d limit is_site =
    choose_below limit (side_vertex site) (side_below site limit is_site.row) (first_four directions) sides d

pub hexagon_leads_within : (directions : List ℕ) → LeadsWithin (hexagon_leads directions)
unfolding hexagon_leads
hexagon_leads_within directions site d limit is_site =
    choose_below limit (way_vertex site) (way_below site limit is_site.row) (first_six directions) compass d
