-- What the table of a board of rows has at each cell.
use Rattle.rbg_base.proofs.Common.{◌≡◌, ℕ, zero, suc, ◌+◌, ◌*◌, ◌<◌, ◌≤◌, List, [], ◌∷◌, ◌++◌, Option, Some, None, IfSome, length, get_or, take, refl, sym, ap, ◌∙◌, subst, inl, inr, arith, add-one, length-append, flat_map, concat, take-length, cases_lt, flat_map-append, same_Some}
use Rattle.std.proofs.lemmas.List.{get_or_append_left, get_or-append-add, length-take-le}
use Rattle.std.proofs.lemmas.List.Concat.{get_or-flat_map}
use Rattle.std.proofs.lemmas.List.FromFn.{get_or-map-range_with_len, length-map-range_with_len}
use Rattle.rbg_board.proofs.Common.{Graph, next, IsGraphOf, graph_of_table, IsTable, Rows, cells_in, IsCell, number_along, site_at, IsRow, IsSite, ways_from, sites_along, IsLaidOut, Site, most_vertices}
use Rattle.rbg_board.proofs.Numbering.{start_of, start-suc, start-le-all, number-lt, number-lt-start, same_cell, cell_of_number, row_of_cell}
use Rattle.rbg_board.proofs.Tables.{all_entries, next_within, next_past, next_outside}

-- the sites of the first rows
abbrev pub sites_of : Rows → ℕ → List Site
sites_of rows zero = []
sites_of rows (suc r) = sites_of rows r ++ sites_along (site_at rows r 0) (cells_in rows r)

-- the row above ends where a row starts, and no row ends past all the cells
pub is_row : (rows : Rows) (r c : ℕ) → IsRow (site_at rows r c) (length (concat rows))
is_row rows zero c = record { after_above = omega arith; within = omega (arith, start-suc rows zero, start-suc rows 1, start-le-all rows 2) }
is_row rows (suc r) c = record {
  after_above = omega (arith, start-suc rows r);
  within = rw add-one (omega (arith, start-suc rows (suc r), start-suc rows (suc (suc r)), start-le-all rows (suc (suc (suc r)))));
}

pub is_site : (rows : Rows) (r c : ℕ) → IsCell rows r c → IsSite (site_at rows r c) (length (concat rows))
is_site rows r c is_cell = record { row = is_row rows r c; cell_here = is_cell }

pub length-sites : (rows : Rows) (r : ℕ) → length (sites_of rows r) ≡ start_of rows r
length-sites rows zero = refl
length-sites rows (suc r) =
    omega (arith, length-append (sites_of rows r) (sites_along (site_at rows r 0) (cells_in rows r)), length-sites rows r, length-map-range_with_len (λ c. site_at rows r c) 0 (cells_in rows r), start-suc rows r)

-- the place of the site of each cell is the number of the cell
pub site_of_number : (rows : Rows) (count r c : ℕ) (e : Site) → r < count → IsCell rows r c → get_or (sites_of rows count) (number_along rows r c) e ≡ site_at rows r c
site_of_number rows zero r c e below is_cell = absurd (omega arith)
site_of_number rows (suc k) r c e below is_cell =
    let row = sites_along (site_at rows k 0) (cells_in rows k) in
    elim (cases_lt r k) [
      | inl earlier ↦
          get_or_append_left (sites_of rows k) row e (number_along rows r c) (omega (arith, length-sites rows k, number-lt-start rows r c k earlier is_cell))
          ∙ site_of_number rows k r c e earlier is_cell
      | inr last ↦
          let same : k ≡ r = omega arith in
          let at_start : length (sites_of rows k) + c ≡ number_along rows k c = ap (λ n. n + c) (length-sites rows k) in
          let is_cell_there : c < cells_in rows k = subst (λ m. c < cells_in rows m) (sym same) is_cell in
          let there : get_or (sites_of rows (suc k)) (number_along rows k c) e ≡ site_at rows k c =
          subst (λ n. get_or (sites_of rows k ++ row) n e ≡ site_at rows k c) at_start
          (get_or-append-add (sites_of rows k) row c e ∙ get_or-map-range_with_len (λ i. site_at rows k i) 0 (cells_in rows k) c c e is_cell_there (omega arith)) in
          subst (λ m. get_or (sites_of rows (suc k)) (number_along rows m c) e ≡ site_at rows m c) same there
    ]

-- a limit may be put higher
pub IsRow-le : (row : Site) (low high : ℕ) → low ≤ high → IsRow row low → IsRow row high
IsRow-le row low high le is_row = record { after_above = is_row.after_above; within = omega (arith, is_row.within) }

-- sites with equal parts are equal
pub same_site : (start above here below cell start' above' here' below' cell' : ℕ) → start ≡ start' → above ≡ above' → here ≡ here' → below ≡ below' → cell ≡ cell'
    → ◌≡◌ {A = Site} (record { start = start; above = above; here = here; below = below; cell = cell }) (record { start = start'; above = above'; here = here'; below = below'; cell = cell' })
same_site start above here below cell start' above' here' below' cell' a b c d e = cc

module _ (leads : Site → ℕ → Option ℕ) (width : ℕ) where
  length-ways : (xs : List Site) → length (flat_map (ways_from leads width) xs) ≡ length xs * width
  length-ways [] = omega arith
  length-ways (x ∷ xs) = omega (arith, length-append (ways_from leads width x) (flat_map (ways_from leads width) xs), length-map-range_with_len (λ d. leads x d) 0 width, length-ways xs)

  -- the entry of a site and a direction
  entry : (xs : List Site) (v d : ℕ) (e : Site) → v < length xs → d < width → get_or (flat_map (ways_from leads width) xs) (v * width + d) None ≡ leads (get_or xs v e) d
  entry xs v d e is_site is_direction =
      let before : length (flat_map (ways_from leads width) (take v xs)) ≡ v * width = length-ways (take v xs) ∙ ap (λ n. n * width) (length-take-le v xs (omega arith)) in
      let in_row : d < length (ways_from leads width (get_or xs v e)) = omega (arith, length-map-range_with_len (λ k. leads (get_or xs v e) k) 0 width) in
      subst (λ n. get_or (flat_map (ways_from leads width) xs) (n + d) None ≡ leads (get_or xs v e) d) before
      (get_or-flat_map (ways_from leads width) xs v d e None is_site in_row ∙ get_or-map-range_with_len (λ k. leads (get_or xs v e) k) 0 width d d None is_direction (omega arith))

  -- the table of the first rows
  abbrev pub table_of : Rows → ℕ → List (Option ℕ)
  table_of rows count = flat_map (ways_from leads width) (sites_of rows count)

  pub table_more : (rows : Rows) (r : ℕ) → table_of rows (suc r) ≡ table_of rows r ++ flat_map (ways_from leads width) (sites_along (site_at rows r 0) (cells_in rows r))
  table_more rows r = flat_map-append (ways_from leads width) (sites_of rows r) (sites_along (site_at rows r 0) (cells_in rows r))

  module _ (rows : Rows) where
    all_sites : length (sites_of rows (length rows)) ≡ length (concat rows)
    all_sites = length-sites rows (length rows) ∙ ap (λ xs. length (concat xs)) (take-length rows)

    pub length-table : length (table_of rows (length rows)) ≡ length (concat rows) * width
    length-table = length-ways (sites_of rows (length rows)) ∙ ap (λ n. n * width) all_sites

    -- the entry of a cell and a direction
    pub entry_of_cell : (r c d : ℕ) → IsCell rows r c → d < width → get_or (table_of rows (length rows)) (number_along rows r c * width + d) None ≡ leads (site_at rows r c) d
    entry_of_cell r c d is_cell is_direction =
        entry (sites_of rows (length rows)) (number_along rows r c) d (site_at rows r c) (omega (arith, all_sites, number-lt rows r c is_cell)) is_direction
        ∙ ap (λ site. leads site d) (site_of_number rows (length rows) r c (site_at rows r c) (row_of_cell rows r c is_cell) is_cell)

    pub is_table : 0 < length (concat rows) → length (concat rows) ≤ most_vertices → ((site : Site) (d limit : ℕ) → IsSite site limit → IfSome (leads site d) (λ u. u < limit))
        → IsTable (length (concat rows)) width (table_of rows (length rows))
    is_table some limit leads_within = record {
      some = some;
      limit = limit;
      size = length-table;
      to_vertices = all_entries (λ to. IfSome to (λ u. u < length (concat rows))) (length (concat rows)) width (table_of rows (length rows)) length-table (λ v d is_vertex is_direction.
          let cell = cell_of_number rows v is_vertex in
          let site = site_at rows cell.row cell.cell in
          let there : get_or (table_of rows (length rows)) (v * width + d) None ≡ leads site d =
          ap (λ n. get_or (table_of rows (length rows)) (n * width + d) None) cell.number ∙ entry_of_cell cell.row cell.cell d cell.is_cell is_direction in
          subst (λ to. IfSome to (λ u. u < length (concat rows))) (sym there) (leads_within site d (length (concat rows)) (is_site rows cell.row cell.cell cell.is_cell)));
    }

    pub is_laid_out : IsLaidOut leads width rows (graph_of_table (concat rows) width (table_of rows (length rows)))
    is_laid_out = record {
      first_pieces = refl;
      ways = λ r c d is_cell is_direction.
          next_within (concat rows) width (table_of rows (length rows)) (number_along rows r c) d (number-lt rows r c is_cell) is_direction ∙ entry_of_cell r c d is_cell is_direction;
      past = λ v d past. elim (cases_lt v (length (concat rows))) [
        | inl is_vertex ↦ next_past (concat rows) width (table_of rows (length rows)) v d is_vertex past
        | inr outside ↦ next_outside (concat rows) width (table_of rows (length rows)) v d outside
      ];
      outside = λ v d outside. next_outside (concat rows) width (table_of rows (length rows)) v d outside;
    }

-- a cell from which a direction leads to a vertex
pub record IsLed (leads : Site → ℕ → Option ℕ) (rows : Rows) (v d u : ℕ) : Type 0 where
  pub row : ℕ
  pub cell : ℕ
  pub is_cell : IsCell rows row cell
  pub number : v ≡ number_along rows row cell
  pub led : leads (site_at rows row cell) d ≡ Some u

-- from a vertex a direction leads to one vertex at most
pub led_one_way : (leads : Site → ℕ → Option ℕ) (rows : Rows) (v d u w : ℕ) → IsLed leads rows v d u → IsLed leads rows v d w → u ≡ w
led_one_way leads rows v d u w led led' =
    let same = same_cell rows led.row led.cell led'.row led'.cell led.is_cell led'.is_cell (sym led.number ∙ led'.number) in
    same_Some u w (sym led.led ∙ ap (λ r. leads (site_at rows r led.cell) d) same.0 ∙ ap (λ c. leads (site_at rows led'.row c) d) same.1 ∙ led'.led)

-- a board that leads from each cell as a set of edges does is the graph of that set
module _ (leads : Site → ℕ → Option ℕ) (width : ℕ) (rows : Rows) (board : Graph) (laid_out : IsLaidOut leads width rows board) (Edge : ℕ → ℕ → ℕ → Type 0) where
  edge_of_next : ((r c d u : ℕ) → IsCell rows r c → leads (site_at rows r c) d ≡ Some u → Edge (number_along rows r c) d u) → (v d u : ℕ) → next board v d ≡ Some u → Edge v d u
  edge_of_next sound v d u some =
      let is_vertex : v < length (concat rows) = elim (cases_lt v (length (concat rows))) [ inl within ↦ within | inr outside ↦ let none = laid_out.outside v d outside in absurd cc ] in
      let is_direction : d < width = elim (cases_lt d width) [ inl within ↦ within | inr past ↦ let none = laid_out.past v d past in absurd cc ] in
      let from = cell_of_number rows v is_vertex in
      let led : leads (site_at rows from.row from.cell) d ≡ Some u = sym (laid_out.ways from.row from.cell d from.is_cell is_direction) ∙ ap (λ n. next board n d) (sym from.number) ∙ some in
      subst (λ n. Edge n d u) (sym from.number) (sound from.row from.cell d u from.is_cell led)

  next_of_led : (v d u : ℕ) → d < width → IsLed leads rows v d u → next board v d ≡ Some u
  next_of_led v d u is_direction led = ap (λ n. next board n d) led.number ∙ laid_out.ways led.row led.cell d led.is_cell is_direction ∙ led.led

  pub graph_of_layout : ((r c d u : ℕ) → IsCell rows r c → leads (site_at rows r c) d ≡ Some u → Edge (number_along rows r c) d u) → ((v d u : ℕ) → Edge v d u → IsLed leads rows v d u)
      → ((v d u : ℕ) → Edge v d u → d < width) → IsGraphOf board (concat rows) Edge
  graph_of_layout sound complete covered = record {
    first_pieces = laid_out.first_pieces;
    edges = λ v d u. (edge_of_next sound v d u, λ edge. next_of_led v d u (covered v d u edge) (complete v d u edge));
  }
