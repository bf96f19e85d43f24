-- The order of modifiers.
use Rattle.std.specs.Prelude.{◌≡◌, ℕ, ◌<◌, ◌⊎◌, List, Contains}

-- The first pair stands before the other: by its vertex, then by its position.
abbrev pub IsBefore : ℕ × ℕ → ℕ × ℕ → Type 0
IsBefore a b = (a.0 < b.0) ⊎ ((a.0 ≡ b.0) × (a.1 < b.1))

-- None of the pairs stands before this one.
abbrev pub IsLeast : List (ℕ × ℕ) → ℕ × ℕ → Type 0
IsLeast pairs q = (x : ℕ × ℕ) → Contains pairs x → ¬ IsBefore x q
