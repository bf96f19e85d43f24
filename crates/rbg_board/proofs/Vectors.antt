-- Rows that are read from a slice of vectors.
use Rattle.rbg_base.proofs.Common.{◌≡◌, ℕ, ◌<◌, List, [], Vec, length, get_or, sym, ap, ◌∙◌, arith, get_or-map}
use Rattle.rbg_board.specs.Cells.{rows_of, cells_in}

module _ {Z : Type 0} (vectors : List (Vec ℕ Z)) (r : ℕ) (row : Vec ℕ Z) (is_row : r < length vectors) (read : row ≡ get_or vectors r row) where
  -- a vector that is read is that row
  pub row_read : get_or (rows_of vectors) r [] ≡ row.items
  row_read = get_or-map (λ v. v.items) vectors r row [] is_row ∙ ap (λ v. v.items) (sym read)

  -- and has its length
  pub length_read : row.len ≡ cells_in (rows_of vectors) r
  length_read = omega (arith, row.ok.0, ap length row_read)
