-- Sets that are led on by leaps.
use Rattle.std.specs.Prelude.{◌≡◌, ◌⊎◌, ◌+◌, ◌*◌, ◌%◌, ◌<◌, ◌≤◌, ℕ, List, length, Bool, true, Contains}
use Rattle.std.specs.Int.{bit_at}
use Rattle.rbg_rules.specs.Meaning.{positions_of, AbstractGame}
use Rattle.rbg_shifts.specs.declared.target.Target.{Target}
use Rattle.rbg_shifts.specs.Limits.{row_words}
use Rattle.rbg_flat.specs.Ways.{Way, IsLead, EndsLead}
use Rattle.rbg_flat.specs.internal.Sets.{SetsOfVertices, IsInWord, IsMarked}

-- The sets have a row for each position from 0 on, of at least as many words as the board takes, and at most 64.
pub record AreSizedFor (game : AbstractGame) (sets : SetsOfVertices) : Type 0 where
  pub size : sets.size ≡ length (positions_of game.rules) + 1
  pub columns : row_words game ≤ sets.columns
  pub few : sets.columns ≤ 64

-- What is marked is on the board, at positions of the game.
pub record AreOn (game : AbstractGame) (sets : SetsOfVertices) : Type 0 where
  pub vertex : (v p : ℕ) → IsMarked sets v p → v < length game.board.first
  pub from_one : (v p : ℕ) → IsMarked sets v p → 0 < p
  pub there : (v p : ℕ) → IsMarked sets v p → p ≤ length (positions_of game.rules)

-- The position is one of the game's.
pub record IsPositionIn (game : AbstractGame) (p : ℕ) : Type 0 where
  pub from_one : 0 < p
  pub there : p ≤ length (positions_of game.rules)

-- The target is at a position of the game, and in a column of the board.
pub record IsTargetFor (game : AbstractGame) (t : Target) : Type 0 where
  pub position : IsPositionIn game t.position
  pub column : t.column < row_words game

-- The vertex is one of those of one of the targets, which is at the position.
pub record IsAmong (targets : List Target) (v p : ℕ) : Type 0 where
  pub target : Target
  pub listed : Contains targets target
  pub there : IsInWord target.position target.column target.word v p

-- It was learned whether something ends.
pub record LearnsEnd (old new : Bool) (Ends : Type 0) : Type 0 where
  pub kept : old ≡ true → new ≡ true
  pub all : Ends → new ≡ true
  pub only : new ≡ true → (old ≡ true) ⊎ Ends

-- The bits of a word, in the column c of a row, are vertices of the board.
abbrev pub IsOnBoard : AbstractGame → (c word : ℕ) → Type 0
IsOnBoard game c word = (b : ℕ) → bit_at word b ≡ 1 → c * 64 + b < length game.board.first

-- One is led to position p at vertex u, from position q at one of the vertices of a word.
pub record LeadsFrom (way : Way) (game : AbstractGame) (q c word u p : ℕ) : Type 0 where
  pub vertex : ℕ
  pub there : IsInWord q c word vertex q
  pub lead : IsLead way game q vertex p u

-- A word may end after position q at one of the vertices of a word of bits.
pub record EndsFrom (way : Way) (game : AbstractGame) (q c word : ℕ) : Type 0 where
  pub vertex : ℕ
  pub there : IsInWord q c word vertex q
  pub ends : EndsLead way game q vertex

-- The same, but for the vertices that are still in the rest.
pub record LeadsPast (way : Way) (game : AbstractGame) (q c word rest u p : ℕ) : Type 0 where
  pub vertex : ℕ
  pub there : IsInWord q c word vertex q
  pub past : bit_at rest (vertex % 64) ≡ 0
  pub lead : IsLead way game q vertex p u

pub record EndsPast (way : Way) (game : AbstractGame) (q c word rest : ℕ) : Type 0 where
  pub vertex : ℕ
  pub there : IsInWord q c word vertex q
  pub past : bit_at rest (vertex % 64) ≡ 0
  pub ends : EndsLead way game q vertex

-- The vertex is in a word, and the position is one of these.
pub record IsAmongBits (positions : List ℕ) (c word v p : ℕ) : Type 0 where
  pub listed : Contains positions p
  pub there : IsInWord p c word v p
