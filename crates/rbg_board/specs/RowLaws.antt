-- What a board of rows needs of its rows and directions, and what it refuses them for. `Cells` means that no cell is
-- missing that has to be there, and `Lacks` that one is. `Lawful` means that the lengths of the rows are right, and
-- `IsMisfit` that a row is the first whose length is wrong.
use Rattle.std.specs.Prelude.{◌<◌, ◌≤◌, ℕ, List, length}
use Rattle.std.specs.List.{concat}
use Rattle.rbg_board.specs.Cells.{Rows, HasTwice, AreDifferent}
use Rattle.rbg_board.specs.declared.error.BoardError.{BoardError}
use Rattle.rbg_board.specs.declared.error.BoardError.TheVariants.{NoCell, RowLength, TooManyVertices, SameDirection, UnknownVertex, SameVertex, Memory}
use Rattle.rbg_board.specs.Limits.{most_vertices}

-- rows and directions without a fault
pub record MakesRows (Cells Lawful : Rows → Type 0) (directions : List ℕ) (rows : Rows) : Type 0 where
  pub cells : Cells rows
  pub lawful : Lawful rows
  pub fits : length (concat rows) ≤ most_vertices
  pub different : AreDifferent directions

-- What each refusal means for the arguments: they have the fault that it names, and no fault that is looked for
-- earlier. `Memory` is returned only for arguments without a fault.
unfoldable pub RowsRefusal :
    (Cells Lacks Lawful : Rows → Type 0)
    → (Rows → ℕ → Type 0)
    → List ℕ
    → Rows
    → BoardError
    → Type 0
RowsRefusal Cells Lacks Lawful IsMisfit directions rows NoCell = Lacks rows
RowsRefusal Cells Lacks Lawful IsMisfit directions rows (RowLength row) = Cells rows × IsMisfit rows row
RowsRefusal Cells Lacks Lawful IsMisfit directions rows TooManyVertices =
    Cells rows
    × Lawful rows
    × (most_vertices < length (concat rows))
RowsRefusal Cells Lacks Lawful IsMisfit directions rows SameDirection =
    Cells rows
    × Lawful rows
    × (length (concat rows) ≤ most_vertices)
    × HasTwice directions
RowsRefusal Cells Lacks Lawful IsMisfit directions rows UnknownVertex = ⊥
RowsRefusal Cells Lacks Lawful IsMisfit directions rows SameVertex = ⊥
RowsRefusal Cells Lacks Lawful IsMisfit directions rows Memory = MakesRows Cells Lawful directions rows
