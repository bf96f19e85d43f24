-- Sets of vertices for each position, as rows of bits.
use Rattle.std.specs.Prelude.{◌≡◌, ◌⊎◌, ℕ, ◌+◌, ◌-◌, ◌*◌, ◌^◌, ◌/◌, ◌%◌, ◌<◌, ◌≤◌, List, length, slice_index}
use Rattle.std.specs.Int.{bit_at}
use Rattle.std.specs.List.{sum_by}

-- The position is the last of the list.
pub record IsLastOf (positions : List ℕ) (p : ℕ) : Type 0 where
  pub some : 0 < length positions
  pub last : slice_index positions (length positions - 1) ≡ p

-- Rows of vertices by position: so many words for each of so many positions.
--   marks: what was met
--   pending: what of it is still to be looked at
--   waiting, touched: the places of the words that have something open, or something marked
pub record SetsOfVertices : Type 0 where
  pub size : ℕ
  pub columns : ℕ
  pub marks : List ℕ
  pub pending : List ℕ
  pub waiting : List ℕ
  pub touched : List ℕ

-- The bit of a vertex in the row of a position is set.
pub record HasBitAt (columns : ℕ) (words : List ℕ) (v p : ℕ) : Type 0 where
  pub column : v / 64 < columns
  pub set : bit_at (slice_index words (p * columns + v / 64)) (v % 64) ≡ 1

-- The vertex is a bit of that word of the row of a position.
pub record IsInWord (q c word v p : ℕ) : Type 0 where
  pub position : p ≡ q
  pub column : v / 64 ≡ c
  pub set : bit_at word (v % 64) ≡ 1

abbrev pub IsMarked : SetsOfVertices → (v p : ℕ) → Type 0
IsMarked sets = HasBitAt sets.columns sets.marks

abbrev pub IsOpen : SetsOfVertices → (v p : ℕ) → Type 0
IsOpen sets = HasBitAt sets.columns sets.pending

abbrev pub sets_of : (size columns : ℕ) → (marks pending waiting touched : List ℕ) → SetsOfVertices
sets_of size columns marks pending waiting touched =
    record { size = size; columns = columns; marks = marks; pending = pending; waiting = waiting; touched = touched }

-- How much is left to be done: each bit that is met or closed takes something off.
abbrev pub weight : SetsOfVertices → ℕ
weight sets = 2 * sum_by (λ m. 2 ^ 64 - m) sets.marks + sum_by (λ m. m) sets.pending

-- A word of a row was met: its bits are marked, and what is new of it is open where `opens` has a bit too.
pub record MeetsWord (old new : SetsOfVertices) (position column word opens : ℕ) : Type 0 where
  pub size : new.size ≡ old.size
  pub columns : new.columns ≡ old.columns
  pub kept : (v p : ℕ) → IsMarked old v p → IsMarked new v p
  pub met : (v p : ℕ) → IsInWord position column word v p → IsMarked new v p
  pub only :
      (v p : ℕ) → IsMarked new v p →
      IsMarked old v p ⊎ (IsInWord position column word v p × (bit_at opens (v % 64) ≡ 1 → IsOpen new v p))
  pub still : (v p : ℕ) → IsOpen old v p → IsOpen new v p
  pub no_other :
      (v p : ℕ) → IsOpen new v p →
      IsOpen old v p ⊎ (IsInWord position column word v p × (bit_at opens (v % 64) ≡ 1) × (¬ IsMarked old v p))
  pub lighter : weight new ≤ weight old

-- Bits of a word of a row are no longer open.
pub record ClosesWord (old new : SetsOfVertices) (position column word : ℕ) : Type 0 where
  pub size : new.size ≡ old.size
  pub columns : new.columns ≡ old.columns
  pub marks : new.marks ≡ old.marks
  pub still : (v p : ℕ) → IsOpen old v p → IsOpen new v p ⊎ IsInWord position column word v p
  pub only : (v p : ℕ) → IsOpen new v p → IsOpen old v p
  pub gone : (v p : ℕ) → IsInWord position column word v p → ¬ IsOpen new v p
  pub lighter : weight new ≤ weight old
  pub less : (v : ℕ) → IsOpen old v position → IsInWord position column word v position → weight new < weight old

-- These vertices with positions were met: they are marked, and those of them that are new and are to be opened are
-- open.
pub record Meets (old new : SetsOfVertices) (In Opens : (v p : ℕ) → Type 0) : Type 0 where
  pub size : new.size ≡ old.size
  pub columns : new.columns ≡ old.columns
  pub kept : (v p : ℕ) → IsMarked old v p → IsMarked new v p
  pub met : (v p : ℕ) → In v p → IsMarked new v p
  pub only : (v p : ℕ) → IsMarked new v p → IsMarked old v p ⊎ (In v p × (Opens v p → IsOpen new v p))
  pub still : (v p : ℕ) → IsOpen old v p → IsOpen new v p
  pub no_other :
      (v p : ℕ) → IsOpen new v p →
      IsOpen old v p ⊎ (In v p × Opens v p × (¬ IsMarked old v p))
  pub lighter : weight new ≤ weight old

-- The word of the vertex in the row of the position is the latest that waits.
abbrev pub WaitsLast : SetsOfVertices → (v p : ℕ) → Type 0
WaitsLast sets v p = IsLastOf sets.waiting (p * sets.columns + v / 64)

-- It is marked and no longer open: it was looked at.
pub record IsDone (sets : SetsOfVertices) (v p : ℕ) : Type 0 where
  pub marked : IsMarked sets v p
  pub closed : ¬ IsOpen sets v p

-- What was looked at stays so.
abbrev pub KeepsDone : (old new : SetsOfVertices) → Type 0
KeepsDone old new = (v p : ℕ) → IsDone old v p → IsDone new v p
