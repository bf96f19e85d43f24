-- The parts of a text, as the code sees them.
use Rattle.std.specs.Prelude.{ℕ, ◌≡◌, ◌<◌, ◌≤◌, List, ◌++◌, length}
use Rattle.rbg_import.specs.declared.comments.Part.{Part}
use Rattle.rbg_import.specs.declared.comments.PartKind.{PartKind}
use Rattle.rbg_import.specs.declared.comments.PartKind.TheVariants.{Plain, Line, Block, Open}
use Rattle.rbg_import.specs.Comments.{Becomes, IsBlock, IsLine, IsOpen, IsPlain}

abbrev pub IsKind : PartKind → List ℕ → ℕ → ℕ → Type 0
IsKind Plain bytes at end = IsPlain bytes at end
IsKind Line bytes at end = IsLine bytes at end
IsKind Block bytes at end = IsBlock bytes at end
IsKind Open bytes at end = IsOpen bytes at end

-- this part is at an offset
pub record IsPart (bytes : List ℕ) (at : ℕ) (p : Part) : Type 0 where
  pub after : at < p.end
  pub within : p.end ≤ length bytes
  pub is : IsKind p.kind bytes at p.end

-- What the bytes from one offset to another become is added to others.
pub record AddsPart (bytes : List ℕ) (at end : ℕ) (old new : List ℕ) : Type 0 where
  pub part : List ℕ
  pub is : new ≡ old ++ part
  pub becomes : Becomes bytes at end part
