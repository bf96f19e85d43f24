-- What archives are handed.
use Rattle.std.specs.Prelude.{ℕ, List, Bool, true, false}
use Rattle.std.specs.List.{list_any}

-- What becomes of the record of the match of a number.
--   kept: an archive was handed these bytes, and has kept them.
--   lost: it couldn't keep what it was handed, or was handed nothing, since there was no memory for the record.
pub data Handed : Type 0 where
  kept : (number : ℕ) (bytes : List ℕ) → Handed
  lost : (number : ℕ) → Handed

-- what an archive has got that was handed these bytes, and returned whether they are kept
abbrev pub handed_as : (number : ℕ) → (bytes : List ℕ) → (is_kept : Bool) → Handed
handed_as number bytes true = kept number bytes
handed_as number bytes false = lost number

-- whether a record is lost
abbrev pub is_lost : Handed → Bool
is_lost (kept number bytes) = false
is_lost (lost number) = true

-- whether one of them is
abbrev pub is_any_lost : List Handed → Bool
is_any_lost handed = list_any is_lost handed
