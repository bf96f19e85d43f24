-- What a query for leaps returns.
use Rattle.std.specs.Prelude.{◌≡◌, ℕ, ◌/◌, ◌%◌, ◌<◌, List, Contains}
use Rattle.std.specs.Int.{bit_at}
use Rattle.rbg_rules.specs.Meaning.{AbstractGame, Start}
use Rattle.rbg_shifts.specs.declared.target.Target.{Target}
use Rattle.rbg_shifts.specs.Leaps.{IsLeap}
use Rattle.rbg_shifts.specs.Limits.{row_words}

-- Vertex u at position p is one of those of the target.
pub record IsEndOf (t : Target) (p u : ℕ) : Type 0 where
  pub position : p ≡ t.position
  pub column : u / 64 ≡ t.column
  pub set : bit_at t.word (u % 64) ≡ 1

-- The targets are the leaps from f and vertex v.
--   sound, all: their vertices are exactly the ends of these leaps
--   some: each has a vertex
--   columns: each is in a column of the board
pub record AreTargetsFrom (game : AbstractGame) (f : Start) (v : ℕ) (targets : List Target) : Type 0 where
  pub sound : (t : Target) → Contains targets t → (p u : ℕ) → IsEndOf t p u → IsLeap game f v p u
  pub all : (p u : ℕ) → IsLeap game f v p u → (t : Target) × Contains targets t × IsEndOf t p u
  pub some : (t : Target) → Contains targets t → (u : ℕ) × IsEndOf t t.position u
  pub columns : (t : Target) → Contains targets t → t.column < row_words game
