-- A row of a table that is filled with the edges of a vertex, one after another.
use Rattle.rbg_base.proofs.Common.{◌≡◌, ◌≢◌, ℕ, ◌+◌, ◌*◌, ◌<◌, ◌≤◌, List, ◌++◌, Option, Some, None, length, get_or, set, map, take, drop, sym, ap, ◌∙◌, subst, inl, inr, arith, length-append, length-drop, get_or-drop, cases_lt, cases_eq, same_Some, row_fits}
use Rattle.std.proofs.lemmas.List.{length-set, take-set-le, get_or-set_same, get_or-set_other, get_or-map, length-map, get_or_default, take-append-drop, drop-append-le, take-append-le, take_all, drop_at}
use Rattle.rbg_board.proofs.Common.{AreDifferent, Written, IsRowOf, AddsRow}

abbrev Edge : Type 0
Edge = ℕ × ℕ

-- the edge at a place
abbrev edge_at : List Edge → ℕ → Edge
edge_at edges k = get_or edges k (0, 0)

-- the new table is the old one and a row that is filled with the first edges
pub record FillsRow (index : ℕ → Option ℕ) (width : ℕ) (edges : List (ℕ × ℕ)) (count : ℕ) (old new : List (Option ℕ)) : Type 0 where
  pub size : length new ≡ length old + width
  pub kept : take (length old) new ≡ old
  pub edge_of_entry : (d u : ℕ) → get_or new (length old + d) None ≡ Some u → (k : ℕ) × (k < count) × ((get_or edges k (0, 0)).0 ≡ d) × (index (get_or edges k (0, 0)).1 ≡ Some u)
  pub entry_of_edge : (k : ℕ) → k < count → get_or new (length old + (get_or edges k (0, 0)).0) None ≡ index (get_or edges k (0, 0)).1

-- edges of different directions are at different places
apart : (edges : List Edge) (j k : ℕ) → AreDifferent (map (λ edge. edge.0) edges) → j < k → k < length edges → (edge_at edges j).0 ≢ (edge_at edges k).0
unfolding AreDifferent
apart edges j k different before within same =
    let direction : Edge → ℕ = λ edge. edge.0 in
    different j k before (omega (arith, length-map edges direction)) (get_or-map direction edges j (0, 0) 0 (omega arith) ∙ same ∙ sym (get_or-map direction edges k (0, 0) 0 within))

module _ (index : ℕ → Option ℕ) (width : ℕ) (edges : List Edge) (i : ℕ) (old new : List (Option ℕ)) (fills : FillsRow index width edges i old new) where
  module _ (u : ℕ) (within : i < length edges) (known : index (edge_at edges i).1 ≡ Some u) (covered : (edge_at edges i).0 < width) (different : AreDifferent (map (λ edge. edge.0) edges)) where
    here : get_or (set new (length old + (edge_at edges i).0) (Some u)) (length old + (edge_at edges i).0) None ≡ Some u
    here = get_or-set_same new (length old + (edge_at edges i).0) (Some u) None (omega (arith, fills.size))

    elsewhere : (d : ℕ) → d ≢ (edge_at edges i).0 → get_or (set new (length old + (edge_at edges i).0) (Some u)) (length old + d) None ≡ get_or new (length old + d) None
    elsewhere d other = get_or-set_other new (length old + (edge_at edges i).0) (length old + d) (Some u) None (λ same. other (omega arith))

    -- one more edge
    pub fills_more : FillsRow index width edges (i + 1) old (set new (length old + (edge_at edges i).0) (Some u))
    fills_more = record {
      size = length-set new (length old + (edge_at edges i).0) (Some u) ∙ fills.size;
      kept = take-set-le (length old) new (length old + (edge_at edges i).0) (Some u) (omega arith) ∙ fills.kept;
      edge_of_entry = λ d w some. elim (cases_eq d (edge_at edges i).0) [
        | inl same ↦
            let value : u ≡ w = same_Some u w (sym here ∙ ap (λ m. get_or (set new (length old + (edge_at edges i).0) (Some u)) (length old + m) None) (sym same) ∙ some) in
            (i, omega arith, sym same, known ∙ ap Some value)
        | inr other ↦
            let earlier = fills.edge_of_entry d w (sym (elsewhere d other) ∙ some) in
            (earlier.0, omega (arith, earlier.1), earlier.2, earlier.3)
      ];
      entry_of_edge = λ k below. elim (cases_lt k i) [
        | inl earlier ↦ elsewhere (edge_at edges k).0 (apart edges k i different earlier within) ∙ fills.entry_of_edge k earlier
        | inr last ↦
            let same : i ≡ k = omega arith in
            subst (λ m. get_or (set new (length old + (edge_at edges i).0) (Some u)) (length old + (edge_at edges m).0) None ≡ index (edge_at edges m).1) same (here ∙ sym known)
      ];
    }

  -- all the edges
  pub fills_all : i ≡ length edges → AddsRow index width edges old new
  fills_all all = record {
    row = drop (length old) new;
    added = sym (take-append-drop (length old) new) ∙ ap (λ xs. xs ++ drop (length old) new) fills.kept;
    is_row = record {
      size = omega (arith, length-drop (length old) new, fills.size);
      edge_of_entry = λ d u some.
          let edge = fills.edge_of_entry d u (sym (get_or-drop (length old) new d None) ∙ some) in
          let within : edge.0 < length edges = omega (arith, edge.1) in
          (edge.0, edge_at edges edge.0, within, get_or_default edges edge.0 (edge_at edges edge.0) (0, 0) within, (edge.2, edge.3));
      entry_of_edge = λ k d within. subst (λ (e : Edge). get_or (drop (length old) new) e.0 None ≡ index e.1) (get_or_default edges k (0, 0) d within) (get_or-drop (length old) new (edge_at edges k).0 None ∙ fills.entry_of_edge k (omega arith));
    };
  }

-- the first vertices have their rows
pub record FillsRows (index : ℕ → Option ℕ) (width : ℕ) (vertices : List Written) (count : ℕ) (table : List (Option ℕ)) : Type 0 where
  pub size : length table ≡ count * width
  pub row : (v : ℕ) (w : Written) → v < count → IsRowOf index width (get_or vertices v w).edges (take width (drop (v * width) table))

-- one more row
pub rows_more : (index : ℕ → Option ℕ) (width : ℕ) (vertices : List Written) (count : ℕ) (edges : List (ℕ × ℕ)) (old new : List (Option ℕ)) → FillsRows index width vertices count old
    → ((w : Written) → (get_or vertices count w).edges ≡ edges) → AddsRow index width edges old new → FillsRows index width vertices (count + 1) new
rows_more index width vertices count edges old new fills edges_are adds =
    let row = adds.row in
    record {
      size = omega (arith, ap length adds.added, length-append old row, adds.is_row.size, fills.size);
      row = λ v w below. elim (cases_lt v count) [
        | inl earlier ↦
            let before : v * width + width ≤ length old = omega (arith, row_fits v width count width earlier (omega arith), fills.size) in
            let inside : take width (drop (v * width) old) ≡ take width (drop (v * width) (old ++ row)) =
            sym (ap (take width) (drop-append-le (v * width) old row (omega arith)) ∙ take-append-le width (drop (v * width) old) row (omega (arith, length-drop (v * width) old))) in
            subst (IsRowOf index width (get_or vertices v w).edges) (inside ∙ ap (λ xs. take width (drop (v * width) xs)) (sym adds.added)) (fills.row v w earlier)
        | inr last ↦
            let place : count ≡ v = omega arith in
            let there : row ≡ take width (drop (v * width) new) =
            sym (take_all width row (omega (arith, adds.is_row.size)))
            ∙ ap (take width) (sym (drop_at old row (v * width) (fills.size ∙ ap (λ n. n * width) place)))
            ∙ ap (λ xs. take width (drop (v * width) xs)) (sym adds.added) in
            let edges_there = sym (edges_are w) ∙ ap (λ n. (get_or vertices n w).edges) place in
            subst (λ es. IsRowOf index width es (take width (drop (v * width) new))) edges_there (subst (IsRowOf index width edges) there adds.is_row)
      ];
    }
