-- Comments of the paper's language, and what replaces them.
use Rattle.std.specs.Prelude.{ℕ, ◌≡◌, ◌≢◌, ◌+◌, ◌-◌, ◌<◌, ◌≤◌, ◌==◌, ◌||◌, Bool, true, false, List, [], ◌∷◌, ◌++◌, length, drop, slice_index, slice_range, codes, if◌then◌else◌}
use Rattle.std.specs.List.{flat_map}

-- these two bytes are at an offset
pub record StandsAt (bytes : List ℕ) (at first second : ℕ) : Type 0 where
  pub within : at + 1 < length bytes
  pub is_first : slice_index bytes at ≡ first
  pub is_second : slice_index bytes (at + 1) ≡ second

-- a byte outside of comments
pub record IsPlain (bytes : List ℕ) (at end : ℕ) : Type 0 where
  pub single : end ≡ at + 1
  pub no_line : StandsAt bytes at 47 47 → ⊥
  pub no_block : StandsAt bytes at 47 42 → ⊥

-- the bytes from `//` up to the end of its line
pub record IsLine (bytes : List ℕ) (at end : ℕ) : Type 0 where
  pub opens : StandsAt bytes at 47 47
  pub after : at + 2 ≤ end
  pub one_line : (k : ℕ) → at + 2 ≤ k → k < end → slice_index bytes k ≢ 10
  pub ends : end < length bytes → slice_index bytes end ≡ 10

-- the bytes from `/*` up to the first `*/` after it
pub record IsBlock (bytes : List ℕ) (at end : ℕ) : Type 0 where
  pub opens : StandsAt bytes at 47 42
  pub after : at + 4 ≤ end
  pub closes : StandsAt bytes (end - 2) 42 47
  pub first : (k : ℕ) → at + 2 ≤ k → k < end - 2 → StandsAt bytes k 42 47 → ⊥

-- a `/*` without a `*/` after it
pub record IsOpen (bytes : List ℕ) (at end : ℕ) : Type 0 where
  pub opens : StandsAt bytes at 47 42
  pub last : end ≡ length bytes
  pub never : (k : ℕ) → at + 2 ≤ k → StandsAt bytes k 42 47 → ⊥

-- space, tab and carriage return
abbrev pub is_space : ℕ → Bool
is_space b = b == 32 || b == 9 || b == 13

-- there is a line feed, and nothing but spaces is before it
abbrev pub ends_line : List ℕ → Bool
ends_line [] = false
ends_line (b ∷ bs) = if b == 10 then true else if is_space b then ends_line bs else false

-- a byte of a comment, with `//` at the beginning of the next line
abbrev pub commented_byte : ℕ → List ℕ
commented_byte b = if b == 10 then b ∷ codes "//" else b ∷ []

-- each line of a comment with `//` before it
abbrev pub commented : List ℕ → List ℕ
commented body = codes "//" ++ flat_map commented_byte body

-- a line feed, unless the line ends after a comment anyway
abbrev pub feed_before : List ℕ → List ℕ
feed_before rest = if ends_line rest then [] else codes "\n"

-- What the bytes from one offset to another become. Blanks at the end of a comment between marks may be left out. (A
-- text in which a comment isn't closed is refused.)
pub data Becomes (bytes : List ℕ) (at end : ℕ) : List ℕ → Type 0 where
  plain : IsPlain bytes at end → Becomes bytes at end (slice_range bytes at end)
  line : IsLine bytes at end → Becomes bytes at end (slice_range bytes at end)
  open_block : IsOpen bytes at end → Becomes bytes at end (slice_range bytes at end)
  block : (kept left_out : List ℕ) → IsBlock bytes at end →
      slice_range bytes (at + 2) (end - 2) ≡ kept ++ left_out →
      Becomes bytes at end (commented kept ++ feed_before (drop end bytes))

-- The bytes up to an offset, and what they become, part by part.
pub data Rewrites (bytes : List ℕ) : (at : ℕ) → (new : List ℕ) → Type 0 where
  nothing : Rewrites bytes 0 []
  more : {at : ℕ} {new : List ℕ} (end : ℕ) (part : List ℕ) → Rewrites bytes at new → Becomes bytes at end part →
      Rewrites bytes end (new ++ part)

-- What some bytes become is added to others.
pub record AddsRewritten (bytes : List ℕ) (old new : List ℕ) : Type 0 where
  pub added : List ℕ
  pub is : new ≡ old ++ added
  pub rewrites : Rewrites bytes (length bytes) added
