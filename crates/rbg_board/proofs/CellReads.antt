-- Cells that are read from a slice, and their names and edges.
use Rattle.rbg_base.proofs.Common.{◌≡◌, ◌≢◌, ℕ, ◌+◌, ◌<◌, List, All, length, get_or, map, take, sym, ap, ◌∙◌, inl, inr, arith, cases_lt}
use Rattle.std.proofs.lemmas.List.{get_or-map, get_or-take, length-map, length-take-le}
use Rattle.rbg_board.proofs.Common.{Written, names_of, pieces_of, written, written_of, Cell}

module _ (cells : List Cell) (v : ℕ) (cell : Cell) (is_cell : v < length cells) (read : cell ≡ get_or cells v cell) where
  -- a cell that is read is the vertex at its place
  pub cell_read : (d : Written) → get_or (written_of cells) v d ≡ written cell
  cell_read d = get_or-map written cells v cell d is_cell ∙ ap written (sym read)

  pub name_read : get_or (names_of (written_of cells)) v 0 ≡ cell.name
  name_read = get_or-map (λ w. w.name) (written_of cells) v (written cell) 0 (omega (arith, length-map cells written)) ∙ ap (λ w. w.name) (cell_read (written cell))

  pub piece_read : get_or (pieces_of (written_of cells)) v 0 ≡ cell.piece
  piece_read = get_or-map (λ w. w.piece) (written_of cells) v (written cell) 0 (omega (arith, length-map cells written)) ∙ ap (λ w. w.piece) (cell_read (written cell))

  -- its edges are those of the vertex
  pub edges_read : (edges : List (ℕ × ℕ)) (d : Written) → edges ≡ cell.edges.items → (get_or (written_of cells) v d).edges ≡ edges
  edges_read edges d value = ap (λ (w : Written). w.edges) (cell_read d) ∙ sym value

-- there are as many vertices and names as cells
pub length-written : (cells : List Cell) → length (written_of cells) ≡ length cells
length-written cells = length-map cells written

pub length-names : (cells : List Cell) → length (names_of (written_of cells)) ≡ length cells
length-names cells = length-map (written_of cells) (λ w. w.name) ∙ length-map cells written

-- one more edge whose direction differs from those before it
pub differ_more : (edges : List (ℕ × ℕ)) (i : ℕ) → i < length edges → All (λ earlier. earlier.0 ≢ (get_or edges i (0, 0)).0) (take i edges)
    → ((j k : ℕ) → j < k → k < i → get_or (map (λ e. e.0) edges) j 0 ≡ get_or (map (λ e. e.0) edges) k 0 → ⊥)
    → (j k : ℕ) → j < k → k < i + 1 → get_or (map (λ e. e.0) edges) j 0 ≡ get_or (map (λ e. e.0) edges) k 0 → ⊥
differ_more edges i within other differ j k before below same = elim (cases_lt k i) [
  | inl earlier ↦ differ j k before earlier same
  | inr last ↦
      let last_is : k ≡ i = omega arith in
      let inside : j < i = omega arith in
      let direction : ℕ × ℕ → ℕ = λ e. e.0 in
      let at_j = ap direction (get_or-take i edges j (0, 0) inside) ∙ sym (get_or-map direction edges j (0, 0) 0 (omega arith)) in
      let at_i = get_or-map direction edges i (0, 0) 0 within in
      other j (0, 0) (omega (arith, length-take-le i edges (omega arith))) (at_j ∙ same ∙ ap (λ m. get_or (map direction edges) m 0) last_is ∙ at_i)
]
