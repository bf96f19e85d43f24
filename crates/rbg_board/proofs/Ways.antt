-- The ways out of a cell, one for each of the directions that a board of rows is given: what rectangles and hexagons
-- share.
use Rattle.rbg_base.proofs.Common.{◌≡◌, ℕ, ◌+◌, ◌<◌, List, Option, Some, None, All, Contains, length, map, get_or, option_map, refl, sym, ap, ◌∙◌, subst, inl, inr, arith, concat, slice_get, length-map, get_or_from_slice_get, same_Some, slice_get_cases, slice_get-get_or, slice_get-map, slice_get_within}
use Rattle.rbg_board.proofs.Common.{Graph, IsGraphOf, UsesOnly, Rows, IsCell, number_along, AreDifferent, site_at, vertex_here, IsLaidOut, cell_before, at_cell, choose, IsStep, RowsEdge, RowsLeadBack, Site}
use Rattle.rbg_board.proofs.Choices.{contains_entry, choose_some, choose_at, same_place}
use Rattle.rbg_board.proofs.Layouts.{IsLed, graph_of_layout}
use Rattle.rbg_board.proofs.Neighbours.{at_cell_some, cell_before_some, here_some}

-- the cell at the end of a step
pub record IsStepped (rows : Rows) (Step : ℕ → ℕ → Type 0) (u : ℕ) : Type 0 where
  pub to_row : ℕ
  pub to_cell : ℕ
  pub step : Step to_row to_cell
  pub is_to_cell : IsCell rows to_row to_cell
  pub to_number : u ≡ number_along rows to_row to_cell

-- the vertex of the way at a place
way_at : {Way : Type 0} (ways : List Way) (vertex : Way → Option ℕ) (k : ℕ) (way : Way) → slice_get ways k ≡ Some way → get_or (map vertex ways) k None ≡ vertex way
way_at ways vertex k way stands = get_or_from_slice_get (map vertex ways) k (vertex way) None (slice_get-map vertex ways k ∙ ap (option_map vertex) stands)

-- the same entry of a list of different numbers has the same place
pub same_entry : (xs : List ℕ) (i j x : ℕ) → AreDifferent xs → slice_get xs i ≡ Some x → slice_get xs j ≡ Some x → i ≡ j
same_entry xs i j x different at_i at_j =
    same_place xs i j different (slice_get_within xs i x at_i) (slice_get_within xs j x at_j) (get_or_from_slice_get xs i x 0 at_i ∙ sym (get_or_from_slice_get xs j x 0 at_j))

-- A board that leads from each cell by a choice among the vertices of its ways, one for each of the directions, written
-- out. The vertex of a way is that of the cell at the end of a step that way.
module _ {Way : Type 0} (ways : List Way) (Step : Way → ℕ → ℕ → ℕ → ℕ → Type 0) (number : ℕ → ℕ → ℕ) (directions : List ℕ) (rows : Rows) (all : length directions ≡ length ways)
    (different : AreDifferent directions) (ks : List ℕ) (is : directions ≡ ks) (vertex : Site → Way → Option ℕ)
    (numbered : (r c : ℕ) → IsCell rows r c → number_along rows r c ≡ number r c)
    (cell_of : (way : Way) (r c u : ℕ) → IsCell rows r c → vertex (site_at rows r c) way ≡ Some u → IsStepped rows (Step way r c) u)
    (vertex_of : (way : Way) (r c r' c' : ℕ) → Step way r c r' c' → IsCell rows r' c' → vertex (site_at rows r c) way ≡ Some (number_along rows r' c')) where
  abbrev Edge : ℕ → ℕ → ℕ → Type 0
  Edge = RowsEdge ways Step number directions rows

  abbrev leads : Site → ℕ → Option ℕ
  leads site d = choose ks (map (vertex site) ways) d

  -- an edge leads where the code does
  pub leads_of_edge : (v d u : ℕ) → Edge v d u → IsLed leads rows v d u
  leads_of_edge v d u edge =
      let step = edge.step in
      let site = site_at rows step.row step.cell in
      let within : edge.along.place < length directions = slice_get_within directions edge.along.place d edge.along.is_direction in
      let direction : d ≡ get_or ks edge.along.place 0 = sym (get_or_from_slice_get directions edge.along.place d 0 edge.along.is_direction) ∙ ap (λ xs. get_or xs edge.along.place 0) is in
      record {
        row = step.row;
        cell = step.cell;
        is_cell = step.is_cell;
        number = step.from_number ∙ sym (numbered step.row step.cell step.is_cell);
        led = ap (choose ks (map (vertex site) ways)) direction
            ∙ choose_at ks (map (vertex site) ways) edge.along.place (subst AreDifferent is different) (omega (arith, within, ap length is)) (omega (arith, within, all, length-map ways (vertex site)))
            ∙ way_at ways (vertex site) edge.along.place edge.way edge.along.is_way
            ∙ vertex_of edge.way step.row step.cell step.to_row step.to_cell step.step step.is_to_cell
            ∙ ap Some (numbered step.to_row step.to_cell step.is_to_cell ∙ sym step.to_number);
      }

  -- and the code where an edge does
  edge_of_leads : (r c d u : ℕ) → IsCell rows r c → leads (site_at rows r c) d ≡ Some u → Edge (number_along rows r c) d u
  edge_of_leads r c d u is_cell some =
      let site = site_at rows r c in
      let chosen = choose_some ks (map (vertex site) ways) d u some in
      let k = chosen.place in
      let within : k < length directions = omega (arith, chosen.within, ap length is) in
      elim ((slice_get_cases ways k).1) [
        | inl (way, inside, stands, read) ↦
            let to = cell_of way r c u is_cell (sym (way_at ways (vertex site) k way stands) ∙ chosen.vertex) in
            record {
              way = way;
              along = record { place = k; is_way = stands; is_direction = slice_get-get_or directions k 0 within ∙ ap Some (ap (λ xs. get_or xs k 0) is ∙ sym chosen.direction) };
              step = record {
                row = r;
                cell = c;
                to_row = to.to_row;
                to_cell = to.to_cell;
                step = to.step;
                is_cell = is_cell;
                is_to_cell = to.is_to_cell;
                from_number = numbered r c is_cell;
                to_number = to.to_number ∙ numbered to.to_row to.to_cell to.is_to_cell;
              };
            }
        | inr (past, none) ↦ absurd (omega (arith, past, within, all))
      ]

  -- the direction of an edge is one of the directions
  entry : (v d u : ℕ) (edge : Edge v d u) → get_or directions edge.along.place 0 ≡ d
  entry v d u edge = get_or_from_slice_get directions edge.along.place d 0 edge.along.is_direction

  module _ (width : ℕ) (board : Graph) (laid_out : IsLaidOut leads width rows board) (covers : All (λ d. d < width) directions) where
    pub edges_board : IsGraphOf board (concat rows) Edge
    edges_board = graph_of_layout leads width rows board laid_out Edge edge_of_leads leads_of_edge (λ v d u edge.
        subst (λ k. k < width) (entry v d u edge) (covers edge.along.place 0 (slice_get_within directions edge.along.place d edge.along.is_direction)))

    -- only these directions lead anywhere
    pub edges_use : UsesOnly directions board
    edges_use = record {
      is_given = λ v d u leads.
          let edge = (edges_board.edges v d u).0 leads in
          subst (Contains directions) (entry v d u edge) (contains_entry directions edge.along.place (slice_get_within directions edge.along.place d edge.along.is_direction));
    }

-- the cells to the right and to the left in the same row
pub step_right : (rows : Rows) (r c u : ℕ) → vertex_here (site_at rows r c) (c + 1) ≡ Some u → IsStepped rows (λ r' c'. (r' ≡ r) × (c' ≡ c + 1)) u
step_right rows r c u some =
    let found = here_some rows r c (c + 1) u some in
    record { to_row = r; to_cell = c + 1; step = (refl, refl); is_to_cell = found.0; to_number = found.1 }

pub step_left : (rows : Rows) (r c u : ℕ) → at_cell (vertex_here (site_at rows r c)) (cell_before c) ≡ Some u → IsStepped rows (λ r' c'. (r' ≡ r) × (c ≡ c' + 1)) u
step_left rows r c u some =
    let previous = at_cell_some (vertex_here (site_at rows r c)) (cell_before c) u some in
    let found = here_some rows r c previous.0 u previous.2 in
    record { to_row = r; to_cell = previous.0; step = (refl, cell_before_some c previous.0 previous.1); is_to_cell = found.0; to_number = found.1 }

-- a step back is one in the opposite way
pub way_back : {Way : Type 0} (opposite : Way → Way) (Step : Way → ℕ → ℕ → ℕ → ℕ → Type 0) → ((way : Way) (r c r' c' : ℕ) → Step way r c r' c' → Step (opposite way) r' c' r c)
    → (rows : Rows) (number : ℕ → ℕ → ℕ) (there way : Way) (v u : ℕ) → there ≡ way → IsStep rows (Step there) number v u → IsStep rows (Step (opposite way)) number u v
way_back opposite Step back rows number there way v u same step =
    subst (λ w. IsStep rows (Step (opposite w)) number u v) same (record {
      row = step.to_row;
      cell = step.to_cell;
      to_row = step.row;
      to_cell = step.cell;
      step = back there step.row step.cell step.to_row step.to_cell step.step;
      is_cell = step.is_to_cell;
      is_to_cell = step.is_cell;
      from_number = step.to_number;
      to_number = step.from_number;
    })

-- every edge has its way back
pub edges_lead_back : {Way : Type 0} (ways : List Way) (opposite : Way → Way) (Step : Rows → Way → ℕ → ℕ → ℕ → ℕ → Type 0) (number : Rows → ℕ → ℕ → ℕ)
    → ((rows : Rows) (way : Way) (r c r' c' : ℕ) → Step rows way r c r' c' → Step rows (opposite way) r' c' r c) → RowsLeadBack ways opposite (λ directions rows. RowsEdge ways (Step rows) (number rows) directions rows)
edges_lead_back ways opposite Step number step_back directions all different way d b there back rows v u edge =
    let place : edge.along.place ≡ there.place = same_entry directions edge.along.place there.place d different edge.along.is_direction there.is_direction in
    let same : edge.way ≡ way = same_Some edge.way way (sym edge.along.is_way ∙ ap (slice_get ways) place ∙ there.is_way) in
    record { way = opposite way; along = back; step = way_back opposite (Step rows) (step_back rows) rows (number rows) edge.way way v u same edge.step }
