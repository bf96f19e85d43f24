-- That the code leads from each cell of a hexagon as the definition of its edges does.
use Rattle.rbg_base.proofs.Common.{◌≡◌, ℕ, zero, suc, ◌+◌, ◌<◌, ◌≤◌, ◌⊎◌, List, Option, Some, All, nat_lt, length, refl, sym, ap, ◌∙◌, subst, inl, inr, arith, concat}
use Rattle.std.proofs.lemmas.Bool.{cases_lt, lt-ltb, le-ltb, cond-true, cond-false}
use Rattle.rbg_board.proofs.Common.{Graph, IsGraphOf, UsesOnly, Rows, cells_in, IsCell, number_along, Compass, NorthWest, NorthEast, East, SouthEast, SouthWest, West, compass, Grows, Shrinks, SouthWestStep, SouthEastStep, CompassStep, HexagonEdge, GrowsThenShrinks, MakesHexagon, cells_above, site_at, vertex_above, vertex_below, IsLaidOut, cell_before, at_cell, cell_left, cell_right, first_six, way_vertex, hexagon_leads, Site}
use Rattle.rbg_board.proofs.Numbering.{row_of_cell}
use Rattle.rbg_board.proofs.Layouts.{IsLed}
use Rattle.rbg_board.proofs.Choices.{is_first_six}
use Rattle.rbg_board.proofs.Neighbours.{at_cell_some, cell_before_some, some_cell_before, below_some, above_some, at_above, at_below, at_left, at_right}
use Rattle.rbg_board.proofs.Ways.{IsStepped, step_left, step_right}
use Rattle.rbg_board.proofs.Ways as edges

-- the cells to the left and to the right, in a longer and in a shorter row
module _ (site : Site) (cells : ℕ) where
  left_longer : site.here < cells → cell_left site cells ≡ Some site.cell
  unfolding cell_left
  left_longer longer = cond-true (nat_lt site.here cells) (Some site.cell) (cell_before site.cell) (lt-ltb site.here cells longer)

  left_shorter : cells ≤ site.here → cell_left site cells ≡ cell_before site.cell
  unfolding cell_left
  left_shorter shorter = cond-false (nat_lt site.here cells) (Some site.cell) (cell_before site.cell) (le-ltb site.here cells shorter)

  right_longer : site.here < cells → cell_right site cells ≡ site.cell + 1
  unfolding cell_right
  right_longer longer = cond-true (nat_lt site.here cells) (site.cell + 1) site.cell (lt-ltb site.here cells longer)

  right_shorter : cells ≤ site.here → cell_right site cells ≡ site.cell
  unfolding cell_right
  right_shorter shorter = cond-false (nat_lt site.here cells) (site.cell + 1) site.cell (le-ltb site.here cells shorter)

  -- the vertex at such a cell
  left_some : (vertex : ℕ → Option ℕ) (u : ℕ) → at_cell vertex (cell_left site cells) ≡ Some u
      → ((site.here < cells) × (vertex site.cell ≡ Some u)) ⊎ ((cells ≤ site.here) × ((to : ℕ) × (site.cell ≡ to + 1) × (vertex to ≡ Some u)))
  left_some vertex u some = elim (cases_lt site.here cells) [
    | inl longer ↦ inl (longer, sym (ap (at_cell vertex) (left_longer longer)) ∙ some)
    | inr shorter ↦
        let (to, before, here) = at_cell_some vertex (cell_before site.cell) u (sym (ap (at_cell vertex) (left_shorter shorter)) ∙ some) in
        inr (shorter, (to, cell_before_some site.cell to before, here))
  ]

  right_some : (vertex : ℕ → Option ℕ) (u : ℕ) → vertex (cell_right site cells) ≡ Some u → ((site.here < cells) × (vertex (site.cell + 1) ≡ Some u)) ⊎ ((cells ≤ site.here) × (vertex site.cell ≡ Some u))
  right_some vertex u some = elim (cases_lt site.here cells) [
    | inl longer ↦ inl (longer, sym (ap vertex (right_longer longer)) ∙ some)
    | inr shorter ↦ inr (shorter, sym (ap vertex (right_shorter shorter)) ∙ some)
  ]

-- the next cell that way
abbrev IsWayCell : Rows → Compass → ℕ → ℕ → ℕ → Type 0
IsWayCell rows way r c u = IsStepped rows (CompassStep rows way r c) u

-- the row above a row is the one before it
above_is : (rows : Rows) (r k : ℕ) → r ≡ k + 1 → cells_above rows r ≡ cells_in rows k
above_is rows zero k next = absurd (omega arith)
above_is rows (suc r) k next = let same : r ≡ k = omega arith in ap (cells_in rows) same

module _ (rows : Rows) (lawful : GrowsThenShrinks rows) where
  -- if the next row has a cell, it is longer or shorter by one
  grows_or_shrinks : (r c : ℕ) → IsCell rows (r + 1) c → Grows rows r ⊎ Shrinks rows r
  grows_or_shrinks r c is_cell =
      let is_row : suc r < length rows = omega (arith, row_of_cell rows (r + 1) c is_cell) in
      elim (lawful (suc r) is_row) [ inl shrinks ↦ inr shrinks | inr grows ↦ inl grows.0 ]

  grows : (r c : ℕ) → IsCell rows (r + 1) c → cells_in rows r < cells_in rows (r + 1) → Grows rows r
  grows r c is_cell longer = elim (grows_or_shrinks r c is_cell) [ inl grown ↦ grown | inr shrunk ↦ absurd (omega arith) ]

  shrinks : (r c : ℕ) → IsCell rows (r + 1) c → cells_in rows (r + 1) ≤ cells_in rows r → Shrinks rows r
  shrinks r c is_cell shorter = elim (grows_or_shrinks r c is_cell) [ inl grown ↦ absurd (omega arith) | inr shrunk ↦ shrunk ]

  module _ (r c : ℕ) (is_cell : IsCell rows r c) where
    -- a vertex in the row below is that of a cell there
    in_row_below : (Step : ℕ → Type 0) (to u : ℕ) → vertex_below (site_at rows r c) to ≡ Some u → (IsCell rows (r + 1) to → Step to) → IsStepped rows (λ r' c'. (r' ≡ r + 1) × Step c') u
    in_row_below Step to u some step =
        let found = below_some rows r c to u some in
        record { to_row = r + 1; to_cell = to; step = (refl, step found.0); is_to_cell = found.0; to_number = found.1 }

    south_west : (u : ℕ) → way_vertex (site_at rows r c) SouthWest ≡ Some u → IsWayCell rows SouthWest r c u
    south_west u some = elim (left_some (site_at rows r c) (cells_in rows (r + 1)) (vertex_below (site_at rows r c)) u some) [
      | inl (longer, here) ↦ in_row_below _ c u here (λ there. inl (grows r c there longer, refl))
      | inr (shorter, (to, before, here)) ↦ in_row_below _ to u here (λ there. inr (shrinks r to there shorter, before))
    ]

    south_east : (u : ℕ) → way_vertex (site_at rows r c) SouthEast ≡ Some u → IsWayCell rows SouthEast r c u
    south_east u some = elim (right_some (site_at rows r c) (cells_in rows (r + 1)) (vertex_below (site_at rows r c)) u some) [
      | inl (longer, here) ↦ in_row_below _ (c + 1) u here (λ there. inl (grows r (c + 1) there longer, refl))
      | inr (shorter, here) ↦ in_row_below _ c u here (λ there. inr (shrinks r c there shorter, refl))
    ]

    -- the cell itself is in the row after the one above
    cell_below_above : (k : ℕ) → r ≡ k + 1 → IsCell rows (k + 1) c
    cell_below_above k next = subst (λ m. IsCell rows m c) next is_cell

    grows_above : (k : ℕ) → r ≡ k + 1 → cells_above rows r ≤ cells_in rows r → Grows rows k
    grows_above k next shorter = elim (grows_or_shrinks k c (cell_below_above k next)) [
      | inl grown ↦ grown
      | inr shrunk ↦ absurd (omega (arith, above_is rows r k next, ap (cells_in rows) next))
    ]

    shrinks_above : (k : ℕ) → r ≡ k + 1 → cells_in rows r < cells_above rows r → Shrinks rows k
    shrinks_above k next longer = elim (grows_or_shrinks k c (cell_below_above k next)) [
      | inl grown ↦ absurd (omega (arith, above_is rows r k next, ap (cells_in rows) next))
      | inr shrunk ↦ shrunk
    ]

    -- a vertex in the row above is that of a cell there
    in_row_above : (Step : ℕ → ℕ → Type 0) (to u : ℕ) → vertex_above (site_at rows r c) to ≡ Some u → ((k : ℕ) → r ≡ k + 1 → Step k to) → IsStepped rows (λ r' c'. (r ≡ r' + 1) × Step r' c') u
    in_row_above Step to u some step =
        let (k, next, is_to_cell, number) = above_some rows r c to u some in
        record { to_row = k; to_cell = to; step = (next, step k next); is_to_cell = is_to_cell; to_number = number }

    north_west : (u : ℕ) → way_vertex (site_at rows r c) NorthWest ≡ Some u → IsWayCell rows NorthWest r c u
    north_west u some = elim (left_some (site_at rows r c) (cells_above rows r) (vertex_above (site_at rows r c)) u some) [
      | inl (longer, here) ↦ in_row_above _ c u here (λ k next. inr (shrinks_above k next longer, refl))
      | inr (shorter, (to, before, here)) ↦ in_row_above _ to u here (λ k next. inl (grows_above k next shorter, before))
    ]

    north_east : (u : ℕ) → way_vertex (site_at rows r c) NorthEast ≡ Some u → IsWayCell rows NorthEast r c u
    north_east u some = elim (right_some (site_at rows r c) (cells_above rows r) (vertex_above (site_at rows r c)) u some) [
      | inl (longer, here) ↦ in_row_above _ (c + 1) u here (λ k next. inr (shrinks_above k next longer, refl))
      | inr (shorter, here) ↦ in_row_above _ c u here (λ k next. inl (grows_above k next shorter, refl))
    ]

    -- a vertex that way is that of the next cell that way
    way_cell : (way : Compass) (u : ℕ) → way_vertex (site_at rows r c) way ≡ Some u → IsWayCell rows way r c u
    way_cell NorthWest u some = north_west u some
    way_cell NorthEast u some = north_east u some
    way_cell East u some = step_right rows r c u some
    way_cell SouthEast u some = south_east u some
    way_cell SouthWest u some = south_west u some
    way_cell West u some = step_left rows r c u some

-- and the next cell that way has the vertex that way
module _ (rows : Rows) (r c r' c' : ℕ) (is_to_cell : IsCell rows r' c') where
  to_south_west : SouthWestStep rows r c r' c' → way_vertex (site_at rows r c) SouthWest ≡ Some (number_along rows r' c')
  to_south_west step =
      let vertex = vertex_below (site_at rows r c) in
      elim step.1 [
        | inl grown ↦ ap (at_cell vertex) (left_longer (site_at rows r c) (cells_in rows (r + 1)) (omega (arith, grown.0))) ∙ ap vertex (sym grown.1) ∙ at_below rows r c r' c' is_to_cell step.0
        | inr shrunk ↦
            ap (at_cell vertex) (left_shorter (site_at rows r c) (cells_in rows (r + 1)) (omega (arith, shrunk.0))) ∙ ap (at_cell vertex) (some_cell_before c c' shrunk.1) ∙ at_below rows r c r' c' is_to_cell step.0
      ]

  to_south_east : SouthEastStep rows r c r' c' → way_vertex (site_at rows r c) SouthEast ≡ Some (number_along rows r' c')
  to_south_east step =
      let vertex = vertex_below (site_at rows r c) in
      elim step.1 [
        | inl grown ↦ ap vertex (right_longer (site_at rows r c) (cells_in rows (r + 1)) (omega (arith, grown.0))) ∙ ap vertex (sym grown.1) ∙ at_below rows r c r' c' is_to_cell step.0
        | inr shrunk ↦ ap vertex (right_shorter (site_at rows r c) (cells_in rows (r + 1)) (omega (arith, shrunk.0))) ∙ ap vertex (sym shrunk.1) ∙ at_below rows r c r' c' is_to_cell step.0
      ]

  -- the row above is not longer than a row after which the rows grow, and longer than one after which they shrink
  not_longer : r ≡ r' + 1 → Grows rows r' → cells_above rows r ≤ cells_in rows r
  not_longer next grown = omega (arith, above_is rows r r' next, ap (cells_in rows) next, grown)

  longer : r ≡ r' + 1 → Shrinks rows r' → cells_in rows r < cells_above rows r
  longer next shrunk = omega (arith, above_is rows r r' next, ap (cells_in rows) next, shrunk)

  to_north_west : SouthEastStep rows r' c' r c → way_vertex (site_at rows r c) NorthWest ≡ Some (number_along rows r' c')
  to_north_west step = elim step.1 [
    | inl grown ↦ ap (at_cell (vertex_above (site_at rows r c))) (left_shorter (site_at rows r c) (cells_above rows r) (not_longer step.0 grown.0) ∙ some_cell_before c c' grown.1) ∙ at_above rows r c r' c' is_to_cell step.0
    | inr shrunk ↦ ap (at_cell (vertex_above (site_at rows r c))) (left_longer (site_at rows r c) (cells_above rows r) (longer step.0 shrunk.0) ∙ ap Some shrunk.1) ∙ at_above rows r c r' c' is_to_cell step.0
  ]

  to_north_east : SouthWestStep rows r' c' r c → way_vertex (site_at rows r c) NorthEast ≡ Some (number_along rows r' c')
  to_north_east step = elim step.1 [
    | inl grown ↦ ap (vertex_above (site_at rows r c)) (right_shorter (site_at rows r c) (cells_above rows r) (not_longer step.0 grown.0) ∙ grown.1) ∙ at_above rows r c r' c' is_to_cell step.0
    | inr shrunk ↦ ap (vertex_above (site_at rows r c)) (right_longer (site_at rows r c) (cells_above rows r) (longer step.0 shrunk.0) ∙ sym shrunk.1) ∙ at_above rows r c r' c' is_to_cell step.0
  ]

  cell_way : (way : Compass) → CompassStep rows way r c r' c' → way_vertex (site_at rows r c) way ≡ Some (number_along rows r' c')
  cell_way NorthWest step = to_north_west step
  cell_way NorthEast step = to_north_east step
  cell_way East step = at_right rows r c r' c' is_to_cell step.0 step.1
  cell_way SouthEast step = to_south_east step
  cell_way SouthWest step = to_south_west step
  cell_way West step = at_left rows r c r' c' is_to_cell step.0 step.1

module _ (directions : List ℕ) (rows : Rows) (makes : MakesHexagon directions rows) (six : length directions ≡ 6) where
  pub leads_of_edge : (v d u : ℕ) → HexagonEdge directions rows v d u → IsLed (hexagon_leads directions) rows v d u
  unfolding hexagon_leads
  leads_of_edge =
      edges.leads_of_edge compass (CompassStep rows) (number_along rows) directions rows six makes.different (first_six directions) (is_first_six directions six) way_vertex
      (λ r c is_cell. refl) (λ way r c u is_cell some. way_cell rows makes.lawful r c is_cell way u some) (λ way r c r' c' step is_to_cell. cell_way rows r c r' c' is_to_cell way step)

  module _ (width : ℕ) (board : Graph) (covers : All (λ d. d < width) directions) (laid_out : IsLaidOut (hexagon_leads directions) width rows board) where
    pub hexagon_board : IsGraphOf board (concat rows) (HexagonEdge directions rows)
    unfolding hexagon_leads
    hexagon_board =
        edges.edges_board compass (CompassStep rows) (number_along rows) directions rows six makes.different (first_six directions) (is_first_six directions six) way_vertex
        (λ r c is_cell. refl) (λ way r c u is_cell some. way_cell rows makes.lawful r c is_cell way u some) (λ way r c r' c' step is_to_cell. cell_way rows r c r' c' is_to_cell way step) width board laid_out covers

    pub hexagon_uses : UsesOnly directions board
    unfolding hexagon_leads
    hexagon_uses =
        edges.edges_use compass (CompassStep rows) (number_along rows) directions rows six makes.different (first_six directions) (is_first_six directions six) way_vertex
        (λ r c is_cell. refl) (λ way r c u is_cell some. way_cell rows makes.lawful r c is_cell way u some) (λ way r c r' c' step is_to_cell. cell_way rows r c r' c' is_to_cell way step) width board laid_out covers
