-- Where a byte occurs in a text.
use Rattle.std.specs.Prelude.{◌≡◌, ◌≢◌, ℕ, ◌+◌, ◌<◌, List, ◌∷◌, ◌++◌, length, take, drop, All}

-- the byte does not occur in the text
abbrev pub LacksByte : ℕ → List ℕ → Type 0
LacksByte byte text = All (λ other. other ≢ byte) text

-- the index at which the byte occurs first
pub record IsFirstPlace (byte : ℕ) (text : List ℕ) (at : ℕ) : Type 0 where
  pub within : at < length text
  pub parts : text ≡ take at text ++ byte ∷ drop (at + 1) text
  pub first : LacksByte byte (take at text)
