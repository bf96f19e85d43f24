-- Words of sets by their place: position * columns + column.
use Rattle.std.specs.Prelude.{◌≡◌, ℕ, ◌+◌, ◌*◌, ◌/◌, ◌^◌, ◌<◌, length}
use Rattle.rbg_flat.specs.internal.Sets.{SetsOfVertices, IsLastOf, IsMarked, IsOpen}

-- There is a row for each position, and what is open is marked.
pub record AreSetsByPlace (sets : SetsOfVertices) : Type 0 where
  pub marks : length sets.marks ≡ sets.size * sets.columns
  pub pendings : length sets.pending ≡ sets.size * sets.columns
  pub small : sets.size * sets.columns < 2 ^ 64
  pub under : (v p : ℕ) → IsOpen sets v p → IsMarked sets v p

-- What was met at a place is forgotten, and nothing else.
pub record ForgetsPlace (old new : SetsOfVertices) (place : ℕ) : Type 0 where
  pub gone : (v p : ℕ) → p * old.columns + v / 64 ≡ place → ¬ IsMarked new v p
  pub only : (v p : ℕ) → IsMarked new v p → IsMarked old v p
  pub still : (v p : ℕ) → ¬ (p * old.columns + v / 64 ≡ place) → IsMarked old v p → IsMarked new v p

-- The vertex was met at the position, and its word is at the place.
pub record IsMetAt (sets : SetsOfVertices) (place p v : ℕ) : Type 0 where
  pub at : p * sets.columns + v / 64 ≡ place
  pub marked : IsMarked sets v p

-- The place is the latest that waits: that of a column, in the row of the position.
pub record IsLatest (sets : SetsOfVertices) (place position column : ℕ) : Type 0 where
  pub there : place < length sets.marks
  pub last : IsLastOf sets.waiting place
  pub at : place ≡ position * sets.columns + column
  pub below : column < sets.columns

-- Some vertex of the column in the row of the position is open.
pub record IsSomeOpen (sets : SetsOfVertices) (position column : ℕ) : Type 0 where
  pub vertex : ℕ
  pub there : vertex / 64 ≡ column
  pub is_open : IsOpen sets vertex position
  pub marked : IsMarked sets vertex position
