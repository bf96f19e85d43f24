-- Modifiers by words of 64 vertices.
use Rattle.std.specs.Prelude.{◌≡◌, ℕ, zero, suc, ◌+◌, ◌^◌, ◌/◌, ◌%◌, ◌<◌, List, [], ◌∷◌, ◌++◌, map, flat_map, get_or}
use Rattle.std.specs.Int.{bit_at, trailing_zeros, w64}
use Rattle.rbg_flat.specs.declared.found.Word.{Word}

abbrev pub with_first : ℕ → List ℕ → List ℕ
with_first zero xs = xs
with_first (suc r) xs = (0 ∷ []) ++ xs

abbrev pub next : ℕ → ℕ
next b = b + 1

-- the places of the bits of n below k, from the lowest on
unfoldable pub bits : (k n : ℕ) → List ℕ
bits zero n = []
bits (suc k) n = with_first (n % 2) (map next (bits k (n / 2)))

-- the position with each vertex of a word, from the lowest on
unfoldable pub pairs_of : Word → List (ℕ × ℕ)
pairs_of word = map (λ (b : ℕ). (word.base + b, word.position)) (bits 64 word.bits)

-- the pairs of the words, one word after another
abbrev pub pairs_in : List Word → List (ℕ × ℕ)
pairs_in words = flat_map pairs_of words

-- the first pair of a word
abbrev pub first_of : Word → ℕ × ℕ
first_of word = (word.base + trailing_zeros w64 word.bits, word.position)

-- the first pair of the word at a place
abbrev pub first_at : List Word → ℕ → ℕ × ℕ
first_at words k = first_of (get_or words k (record { base = 0; position = 0; bits = 0 }))

-- The word has a bit, and each of its vertices is a number of 32 bits.
pub record IsFilled (word : Word) : Type 0 where
  pub some : 0 < word.bits
  pub small : word.bits < 2 ^ 64
  pub fits : (b : ℕ) → bit_at word.bits b ≡ 1 → word.base + b < 2 ^ 32
