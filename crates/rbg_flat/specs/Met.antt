-- How many pairs of a vertex and a position were met so far.
use Rattle.std.specs.Prelude.{◌≡◌, ◌≢◌, ◌↔◌, ℕ, List, length, AllPairs, Contains}

-- So many pairs were met, each once.
pub record CountsMet (Met : (v p : ℕ) → Type 0) (many : ℕ) : Type 0 where
  pub pairs : List (ℕ × ℕ)
  pub all : (q : ℕ × ℕ) → Contains pairs q ↔ Met q.0 q.1
  pub different : AllPairs (λ a b. a ≢ b) pairs
  pub count : length pairs ≡ many
