-- Rows of bits: on which vertices each piece is.
use Rattle.std.specs.Prelude.{◌≡◌, ℕ, ◌+◌, ◌*◌, ◌/◌, ◌%◌, ◌<◌, ◌⊎◌, ◌↔◌, ◌≢◌, List, length, slice_get, slice_index, Some}
use Rattle.std.specs.Int.{bit_at}

-- The word has a bit for each vertex of a column of 64 on which the piece is, and no other.
abbrev pub IsWordOf : (pieces : List ℕ) → (piece column word : ℕ) → Type 0
IsWordOf pieces piece column word = (b : ℕ) → b < 64 → (bit_at word b ≡ 1) ↔ (slice_get pieces (column * 64 + b) ≡ Some piece)

-- the word that has the bit of a piece and a vertex, if a row has `columns` words
abbrev pub word_of : (columns : ℕ) → (piece v : ℕ) → ℕ
word_of columns piece v = piece * columns + v / 64

-- There is a bit for the piece and the vertex.
pub record HasBit (columns size piece v : ℕ) : Type 0 where
  pub column : v / 64 < columns
  pub word : word_of columns piece v < size

-- the bit of a piece and a vertex
abbrev pub bit_in : (columns : ℕ) → (words : List ℕ) → (piece v : ℕ) → ℕ
bit_in columns words piece v = bit_at (slice_index words (word_of columns piece v)) (v % 64)

-- The rows of the first pieces, one after another, for the pieces on the first `many` vertices.
pub record AreRows (pieces : List ℕ) (many columns : ℕ) (words : List ℕ) : Type 0 where
  pub exact :
      (piece v : ℕ) → HasBit columns (length words) piece v →
      (bit_in columns words piece v ≡ 1) ↔ ((v < many) × (slice_index pieces v ≡ piece))

-- The bit of a piece and a vertex got this value, and no other bit changed.
pub record ChangesBit (columns : ℕ) (old new : List ℕ) (piece v value : ℕ) : Type 0 where
  pub size : length new ≡ length old
  pub here : HasBit columns (length old) piece v → bit_in columns new piece v ≡ value
  pub others :
      (x u : ℕ) → HasBit columns (length old) x u → (x ≢ piece) ⊎ (u ≢ v) →
      bit_in columns new x u ≡ bit_in columns old x u

-- A bit of a word got this value, and no other bit changed.
pub record ChangesWord (old new : List ℕ) (word bit value : ℕ) : Type 0 where
  pub size : length new ≡ length old
  pub here : bit_at (slice_index new word) bit ≡ value
  pub others :
      (i b : ℕ) → b < 64 → (i ≢ word) ⊎ (b ≢ bit) →
      bit_at (slice_index new i) b ≡ bit_at (slice_index old i) b
