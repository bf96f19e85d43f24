-- Which vertex is at a cell of a site's own row, of the row above and of the row below.
use Rattle.rbg_base.proofs.Common.{◌≡◌, ℕ, zero, suc, ◌+◌, ◌-◌, ◌<◌, Option, Some, None, if◌then◌else◌, nat_lt, refl, sym, ap, ◌∙◌, subst, inl, inr, arith, add-one, same_Some}
use Rattle.std.proofs.lemmas.Bool.{cases_lt, lt-ltb, le-ltb, cond-true, cond-false}
use Rattle.rbg_board.proofs.Common.{Rows, cells_in, IsCell, number_along, site_at, vertex_above, vertex_here, vertex_below, cell_before, at_cell}
use Rattle.rbg_board.proofs.Numbering.{start_of, start-suc}

-- the vertex at a place of a row, if the row is long enough
some_within : (c size start : ℕ) → c < size → (if nat_lt c size then Some (start + c) else None) ≡ Some (start + c)
some_within c size start within = cond-true (nat_lt c size) (Some (start + c)) None (lt-ltb c size within)

within_some : (c size start u : ℕ) → (if nat_lt c size then Some (start + c) else None) ≡ Some u → (c < size) × (u ≡ start + c)
within_some c size start u some = elim (cases_lt c size) [
  | inl within ↦ (within, same_Some u (start + c) (sym some ∙ some_within c size start within))
  | inr past ↦ let none = cond-false (nat_lt c size) (Some (start + c)) None (le-ltb c size past) in absurd cc
]

-- a vertex at a cell that may be none has its cell
pub at_cell_some : (vertex : ℕ → Option ℕ) (cell : Option ℕ) (u : ℕ) → at_cell vertex cell ≡ Some u → (c : ℕ) × (cell ≡ Some c) × (vertex c ≡ Some u)
at_cell_some vertex None u some = absurd cc
at_cell_some vertex (Some c) u some = (c, refl, some)

-- the cell before a cell
pub cell_before_some : (c k : ℕ) → cell_before c ≡ Some k → c ≡ k + 1
cell_before_some zero k some = absurd cc
cell_before_some (suc c) k some = let same = same_Some c k some in omega arith

pub some_cell_before : (c k : ℕ) → c ≡ k + 1 → cell_before c ≡ Some k
some_cell_before c k next = ap cell_before next ∙ rw add-one refl

module _ (rows : Rows) (r place : ℕ) where
  -- in the same row
  pub here_some : (c u : ℕ) → vertex_here (site_at rows r place) c ≡ Some u → IsCell rows r c × (u ≡ number_along rows r c)
  unfolding vertex_here
  here_some c u some = within_some c (cells_in rows r) (start_of rows r) u some

  pub some_here : (c : ℕ) → IsCell rows r c → vertex_here (site_at rows r place) c ≡ Some (number_along rows r c)
  unfolding vertex_here
  some_here c is_cell = some_within c (cells_in rows r) (start_of rows r) is_cell

  -- in the row below
  start_below : start_of rows r + cells_in rows r ≡ start_of rows (r + 1)
  start_below = rw add-one (sym (start-suc rows r))

  pub below_some : (c u : ℕ) → vertex_below (site_at rows r place) c ≡ Some u → IsCell rows (r + 1) c × (u ≡ number_along rows (r + 1) c)
  unfolding vertex_below
  below_some c u some =
      let found = within_some c (cells_in rows (r + 1)) (start_of rows r + cells_in rows r) u some in
      (found.0, found.1 ∙ ap (λ n. n + c) start_below)

  pub some_below : (c : ℕ) → IsCell rows (r + 1) c → vertex_below (site_at rows r place) c ≡ Some (number_along rows (r + 1) c)
  unfolding vertex_below
  some_below c is_cell = some_within c (cells_in rows (r + 1)) (start_of rows r + cells_in rows r) is_cell ∙ ap (λ n. Some (n + c)) start_below

-- in the row above
start_above : (rows : Rows) (k : ℕ) → start_of rows (suc k) - cells_in rows k ≡ start_of rows k
start_above rows k = omega (arith, start-suc rows k)

pub above_some : (rows : Rows) (r place c u : ℕ) → vertex_above (site_at rows r place) c ≡ Some u → (k : ℕ) × (r ≡ k + 1) × IsCell rows k c × (u ≡ number_along rows k c)
unfolding vertex_above
above_some rows zero place c u some =
    let found = within_some c 0 (start_of rows zero - 0) u some in
    absurd (omega (arith, found.0))
above_some rows (suc k) place c u some =
    let found = within_some c (cells_in rows k) (start_of rows (suc k) - cells_in rows k) u some in
    (k, omega arith, found.0, found.1 ∙ ap (λ n. n + c) (start_above rows k))

pub some_above : (rows : Rows) (r place k c : ℕ) → r ≡ k + 1 → IsCell rows k c → vertex_above (site_at rows r place) c ≡ Some (number_along rows k c)
unfolding vertex_above
some_above rows zero place k c below is_cell = absurd (omega arith)
some_above rows (suc r) place k c below is_cell =
    let same : r ≡ k = omega arith in
    some_within c (cells_in rows r) (start_of rows (suc r) - cells_in rows r) (rw same is_cell) ∙ ap (λ n. Some (n + c)) (start_above rows r) ∙ ap (λ m. Some (start_of rows m + c)) same

-- and the vertex of a cell that is known to be below, beside or above
module _ (rows : Rows) (r c r' c' : ℕ) (is_to_cell : IsCell rows r' c') where
  pub at_below : r' ≡ r + 1 → vertex_below (site_at rows r c) c' ≡ Some (number_along rows r' c')
  at_below next = some_below rows r c c' (subst (λ m. IsCell rows m c') next is_to_cell) ∙ ap (λ m. Some (number_along rows m c')) (sym next)

  pub at_here : r' ≡ r → vertex_here (site_at rows r c) c' ≡ Some (number_along rows r' c')
  at_here same = some_here rows r c c' (subst (λ m. IsCell rows m c') same is_to_cell) ∙ ap (λ m. Some (number_along rows m c')) (sym same)

  pub at_above : r ≡ r' + 1 → vertex_above (site_at rows r c) c' ≡ Some (number_along rows r' c')
  at_above next = some_above rows r c r' c' next is_to_cell

  pub at_left : r' ≡ r → c ≡ c' + 1 → at_cell (vertex_here (site_at rows r c)) (cell_before c) ≡ Some (number_along rows r' c')
  at_left same before = ap (at_cell (vertex_here (site_at rows r c))) (some_cell_before c c' before) ∙ at_here same

  pub at_right : r' ≡ r → c' ≡ c + 1 → vertex_here (site_at rows r c) (c + 1) ≡ Some (number_along rows r' c')
  at_right same after = ap (vertex_here (site_at rows r c)) (sym after) ∙ at_here same
