-- Pairs of a vertex and a position that are met one after another, each once.
use Rattle.std.specs.Prelude.{◌≡◌, ℕ, ◌⊎◌, List, [], ◌∷◌, ◌++◌, All, Contains}

-- The new list is the old one with the pair, which is there once.
abbrev pub Adds : List (ℕ × ℕ) → List (ℕ × ℕ) → ℕ × ℕ → Type 0
Adds old new pair = (Contains old pair × (new ≡ old)) ⊎ ((¬ Contains old pair) × (new ≡ old ++ pair ∷ []))

-- The new list is the old one with pairs of the vertex and these positions, and has each of those.
pub record MeetsAll (old new : List (ℕ × ℕ)) (v : ℕ) (positions : List ℕ) : Type 0 where
  pub more : List (ℕ × ℕ)
  pub grown : new ≡ old ++ more
  pub only : All (λ q. (q.0 ≡ v) × Contains positions q.1) more
  pub all : All (λ p. Contains new (v, p)) positions
