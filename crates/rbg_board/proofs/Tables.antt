-- What a flat table means for the graph that it stores.
use Rattle.rbg_base.proofs.Common.{◌≡◌, ℕ, zero, suc, ◌+◌, ◌*◌, ◌/◌, ◌%◌, ◌<◌, ◌≤◌, List, [], Option, Some, None, IfSome, All, length, get_or, map, take, drop, refl, sym, ◌∙◌, subst, inl, inr, arith, get_or-drop, get_or-take, length-take, length-drop, ap, range_with_len, cases_lt}
use Rattle.std.proofs.lemmas.List.{get_or_past, get_or_default, length-take-le}
use Rattle.std.proofs.lemmas.List.FromFn.{get_or-map-range_with_len, length-map-range_with_len}
use Rattle.std.proofs.lemmas.Nat.{row_fits, mul-add-lt, div_below, mod_below, div-add-mod'}
use Rattle.rbg_board.proofs.Common.{Graph, next, IsClosed, HasWidth, rows_of_table, graph_of_table, IsTable}

module _ (first : List ℕ) (width : ℕ) (table : List (Option ℕ)) where
  -- the row of a vertex
  row_at : (v : ℕ) → v < length first → get_or (rows_of_table (length first) width table) v [] ≡ take width (drop (v * width) table)
  unfolding rows_of_table
  row_at v is_vertex = get_or-map-range_with_len (λ k. take width (drop (k * width) table)) 0 (length first) v v [] is_vertex (omega arith)

  -- a direction leads where the entry in the row of its vertex leads
  pub next_row : (v d : ℕ) → v < length first → next (graph_of_table first width table) v d ≡ get_or (take width (drop (v * width) table)) d None
  unfolding next
  next_row v d is_vertex = rw (row_at v is_vertex) refl

  -- a direction of the table leads where its entry leads
  pub next_within : (v d : ℕ) → v < length first → d < width → next (graph_of_table first width table) v d ≡ get_or table (v * width + d) None
  unfolding next
  next_within v d is_vertex is_direction = rw (row_at v is_vertex) (get_or-take width (drop (v * width) table) d None is_direction ∙ get_or-drop (v * width) table d None)

  -- a direction past the table leads nowhere
  pub next_past : (v d : ℕ) → v < length first → width ≤ d → next (graph_of_table first width table) v d ≡ None
  unfolding next
  next_past v d is_vertex past = rw (row_at v is_vertex) (get_or_past (take width (drop (v * width) table)) d None (omega (arith, length-take width (drop (v * width) table))))

  -- nothing leads from what is no vertex
  pub next_outside : (v d : ℕ) → length first ≤ v → next (graph_of_table first width table) v d ≡ None
  unfolding next rows_of_table
  next_outside v d past = rw (get_or_past (map (λ k. take width (drop (k * width) table)) (range_with_len 0 (length first))) v [] (omega (arith, length-map-range_with_len (λ k. take width (drop (k * width) table)) 0 (length first)))) refl

  -- so an edge has a vertex, and a direction of the table
  pub vertex_of_next : (v d u : ℕ) → next (graph_of_table first width table) v d ≡ Some u → v < length first
  vertex_of_next v d u leads = elim (cases_lt v (length first)) [ inl is_vertex ↦ is_vertex | inr past ↦ let none = next_outside v d past in absurd cc ]

  pub direction_of_next : (v d u : ℕ) → next (graph_of_table first width table) v d ≡ Some u → d < width
  direction_of_next v d u leads = elim (cases_lt d width) [ inl is_direction ↦ is_direction | inr past ↦ let none = next_past v d (vertex_of_next v d u leads) past in absurd cc ]

  -- and is an entry of the table
  pub entry_of_next : (v d u : ℕ) → next (graph_of_table first width table) v d ≡ Some u → get_or table (v * width + d) None ≡ Some u
  entry_of_next v d u leads = sym (next_within v d (vertex_of_next v d u leads) (direction_of_next v d u leads)) ∙ leads

  -- a board leads from vertices to vertices
  pub closed : IsTable (length first) width table → IsClosed (graph_of_table first width table)
  closed is_table = record {
    from_vertex = vertex_of_next;
    to_vertex = λ v d u leads.
        let entry = entry_of_next v d u leads in
        let is_vertex : v < length first = vertex_of_next v d u leads in
        let is_direction : d < width = direction_of_next v d u leads in
        let within : v * width + d < length table = omega (arith, mul-add-lt v width d (length first) is_vertex is_direction, is_table.size) in
        subst (λ to. IfSome to (λ w. w < length first)) entry (is_table.to_vertices (v * width + d) None within);
  }

  -- the rows of a table are all of its width
  pub has_width : IsTable (length first) width table → HasWidth width (graph_of_table first width table)
  unfolding rows_of_table
  has_width is_table = record {
    rows = length-map-range_with_len (λ v. take width (drop (v * width) table)) 0 (length first);
    entries = λ v row within.
        let is_vertex : v < length first = omega (arith, within, length-map-range_with_len (λ k. take width (drop (k * width) table)) 0 (length first)) in
        let fits : v * width + width ≤ length table = omega (arith, row_fits v width (length first) width is_vertex (omega arith), is_table.size) in
        let there = get_or-map-range_with_len (λ k. take width (drop (k * width) table)) 0 (length first) v v row is_vertex (omega arith) in
        ap length there ∙ length-take-le width (drop (v * width) table) (omega (arith, fits, length-drop (v * width) table));
  }

-- a product that is above a number has a second factor that is above 0
positive_factor : (n width k : ℕ) → k < n * width → 0 < width
positive_factor n zero k below = absurd (omega arith)
positive_factor n (suc width) k below = omega arith

-- what holds of the entry of each vertex and direction holds of every entry
pub all_entries : (P : Option ℕ → Type 0) (vertices width : ℕ) (table : List (Option ℕ)) → length table ≡ vertices * width
    → ((v d : ℕ) → v < vertices → d < width → P (get_or table (v * width + d) None)) → All P table
all_entries P vertices width table size each k e within =
    let inside : k < vertices * width = omega (arith, size) in
    let wide : 0 < width = positive_factor vertices width k inside in
    let place : k / width * width + k % width ≡ k = div-add-mod' k width in
    let entry : get_or table (k / width * width + k % width) None ≡ get_or table k e = ap (λ n. get_or table n None) place ∙ get_or_default table k None e within in
    subst P entry (each (k / width) (k % width) (div_below k width vertices wide inside) (mod_below k width wide))

-- A graph with a vertex has one width.
pub one_width : (g : Graph) (a b v : ℕ) → HasWidth a g → HasWidth b g → v < length g.first → a ≡ b
one_width g a b v first second is_vertex =
    let there : v < length g.ways = omega (arith, is_vertex, first.rows) in
    sym (first.entries v [] there) ∙ second.entries v [] there
