-- Cells that are numbered along the rows.
use Rattle.rbg_base.proofs.Common.{◌≡◌, ℕ, zero, suc, ◌+◌, ◌-◌, ◌<◌, ◌≤◌, [], ◌∷◌, ◌++◌, length, get_or, take, refl, sym, ap, ◌∙◌, subst, inl, inr, arith, append_assoc, append-nil, length-append, concat, cases_lt, cases_order}
use Rattle.rbg_board.specs.Cells.{Rows, cells_in, IsCell, number_along}

-- where the numbers of a row begin
abbrev pub start_of : Rows → ℕ → ℕ
start_of rows r = length (concat (take r rows))

-- one more row, in the list of all cells
pub concat_more : (rows : Rows) (r : ℕ) → concat (take (suc r) rows) ≡ concat (take r rows) ++ get_or rows r []
concat_more [] zero = refl
concat_more [] (suc r) = refl
concat_more (x ∷ xs) zero = append-nil x
concat_more (x ∷ xs) (suc r) = rw (concat_more xs r) (sym (append_assoc x (concat (take r xs)) (get_or xs r [])))

-- the next row begins after the cells of this one
pub start-suc : (rows : Rows) (r : ℕ) → start_of rows (suc r) ≡ start_of rows r + cells_in rows r
start-suc rows r = ap length (concat_more rows r) ∙ length-append (concat (take r rows)) (get_or rows r [])

pub start-le : (rows : Rows) (r k : ℕ) → r ≤ k → start_of rows r ≤ start_of rows k
start-le rows r zero below = subst (λ m. start_of rows m ≤ start_of rows zero) {x = zero} (omega arith) (omega arith)
start-le rows r (suc k) below = elim (cases_lt k r) [
  | inl at ↦ subst (λ m. start_of rows m ≤ start_of rows (suc k)) {x = suc k} (omega arith) (omega arith)
  | inr le ↦ omega (arith, start-le rows r k le, start-suc rows k)
]

-- no row ends past all the cells
pub start-le-all : (rows : Rows) (r : ℕ) → start_of rows r ≤ length (concat rows)
start-le-all [] zero = omega arith
start-le-all [] (suc r) = omega arith
start-le-all (x ∷ xs) zero = omega arith
start-le-all (x ∷ xs) (suc r) = omega (arith, start-le-all xs r, length-append x (concat (take r xs)), length-append x (concat xs))

-- so each cell's number is below the number of cells
pub number-lt-start : (rows : Rows) (r c k : ℕ) → r < k → IsCell rows r c → number_along rows r c < start_of rows k
number-lt-start rows r c k below is_cell = omega (arith, start-suc rows r, start-le rows (suc r) k (omega arith))

pub number-lt : (rows : Rows) (r c : ℕ) → IsCell rows r c → number_along rows r c < length (concat rows)
number-lt rows r c is_cell = omega (arith, start-suc rows r, start-le-all rows (suc r))

-- two cells with one number are one cell
pub same_cell : (rows : Rows) (r c r' c' : ℕ) → IsCell rows r c → IsCell rows r' c' → number_along rows r c ≡ number_along rows r' c' → (r ≡ r') × (c ≡ c')
same_cell rows r c r' c' is_cell is_cell' same = elim (cases_order r r') [
  | inl e ↦ (e, let at : start_of rows r ≡ start_of rows r' = ap (start_of rows) e in omega arith)
  | inr apart ↦ elim apart [
    | inl before ↦ absurd (omega (arith, number-lt-start rows r c r' before is_cell))
    | inr after ↦ absurd (omega (arith, number-lt-start rows r' c' r after is_cell'))
  ]
]

-- each number below the number of cells is a cell's
pub record IsNumberOfCell (rows : Rows) (v : ℕ) : Type 0 where
  pub row : ℕ
  pub cell : ℕ
  pub is_cell : IsCell rows row cell
  pub number : v ≡ number_along rows row cell

pub cell_of_number : (rows : Rows) (v : ℕ) → v < length (concat rows) → IsNumberOfCell rows v
cell_of_number [] v below = absurd (omega arith)
cell_of_number (x ∷ xs) v below = elim (cases_lt v (length x)) [
  | inl here ↦ record { row = 0; cell = v; is_cell = here; number = omega arith }
  | inr past ↦
      let rest = cell_of_number xs (v - length x) (omega (arith, length-append x (concat xs))) in
      record { row = suc rest.row; cell = rest.cell; is_cell = rest.is_cell; number = omega (arith, rest.number, length-append x (concat (take rest.row xs))) }
]

-- the row of a cell is there
pub row_of_cell : (rows : Rows) (r c : ℕ) → IsCell rows r c → r < length rows
row_of_cell [] r c is_cell = absurd (omega arith)
row_of_cell (x ∷ xs) zero c is_cell = omega arith
row_of_cell (x ∷ xs) (suc r) c is_cell = omega (arith, row_of_cell xs r c is_cell)
