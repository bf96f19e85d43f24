-- The edges of boards of rows: steps from cell to cell, each in the direction of a way.
use Rattle.std.specs.Prelude.{◌≡◌, ℕ, List, Some, slice_get}
use Rattle.rbg_board.specs.Cells.{Rows}
use Rattle.rbg_board.specs.Steps.{IsStep}

-- d is the direction of the way: the directions are in the order of the ways, and these two are at one place.
pub record IsDirectionOf {Way : Type 0} (ways : List Way) (directions : List ℕ) (way : Way) (d : ℕ) : Type 0 where
  pub place : ℕ
  pub is_way : slice_get ways place ≡ Some way
  pub is_direction : slice_get directions place ≡ Some d

-- The direction d leads from the vertex v to the vertex u: a step some way leads from the one cell to the other, and d is
-- the direction of that way.
pub record RowsEdge {Way : Type 0} (ways : List Way) (Step : Way → ℕ → ℕ → ℕ → ℕ → Type 0) (number : ℕ → ℕ → ℕ) (directions : List ℕ) (rows : Rows) (v d u : ℕ) : Type 0 where
  pub way : Way
  pub along : IsDirectionOf ways directions way d
  pub step : IsStep rows (Step way) number v u
