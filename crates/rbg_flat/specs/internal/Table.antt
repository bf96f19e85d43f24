-- Words of bits, with a list of those that have bits.
use Rattle.std.specs.Prelude.{◌≡◌, ◌≢◌, ◌↔◌, ℕ, ◌<◌, ◌≤◌, List, length, slice_index, take, All, AllPairs, Contains}

-- Words of bits, and the places of those that have some.
pub record Bits : Type 0 where
  pub words : List ℕ
  pub listed : List ℕ

-- The first `many` of the room are the places of the words that have bits, each once.
pub record AreListed (words room : List ℕ) (many : ℕ) : Type 0 where
  pub size : length room ≡ length words
  pub within : many ≤ length room
  pub below : All (λ p. p < length room) (take many room)
  pub different : AllPairs (λ p q. p ≢ q) (take many room)
  pub told : (p : ℕ) → Contains (take many room) p ↔ (slice_index words p ≢ 0)
