-- Steps from cell to cell, as a board of rows has them.
use Rattle.std.specs.Prelude.{◌≡◌, ℕ}
use Rattle.rbg_board.specs.Cells.{Rows, IsCell}

-- A step leads from the cell of the vertex v to that of the vertex u, where `number` is the vertex of a row and a cell.
pub record IsStep (rows : Rows) (Step : ℕ → ℕ → ℕ → ℕ → Type 0) (number : ℕ → ℕ → ℕ) (v u : ℕ) : Type 0 where
  pub row : ℕ
  pub cell : ℕ
  pub to_row : ℕ
  pub to_cell : ℕ
  pub step : Step row cell to_row to_cell
  pub is_cell : IsCell rows row cell
  pub is_to_cell : IsCell rows to_row to_cell
  pub from_number : v ≡ number row cell
  pub to_number : u ≡ number to_row to_cell
