-- One step in the rules and on the board.
use Rattle.std.specs.Prelude.{◌≡◌, ℕ, ◌+◌, ◌≤◌, ◌↔◌, List, [], length, Bool, IsTrue, Some, None, Option, slice_index_or}
use Rattle.rbg_board.specs.Graph.{next}
use Rattle.rbg_rules.specs.Meaning.{Expression, shift, HasAction, positions_of, AbstractGame, Start, Ends}
use Rattle.rbg_auto.specs.Steps.{AreAllThatFollow}
use Rattle.rbg_shifts.specs.Leaps.{IsShiftAt, IsLeap, EndsAcross}

-- The position is at most the last one of the rules.
abbrev pub IsUpToLast : Expression → ℕ → Type 0
IsUpToLast rules p = p ≤ length (positions_of rules)

-- The directions of the shifts, by position, up to a last one; no other position has one.
pub record AreDirectionsUpTo (rules : Expression) (last : ℕ) (directions : List (Option ℕ)) : Type 0 where
  pub size : length directions ≡ last + 1
  pub shifts : (p d : ℕ) → slice_index_or directions p None ≡ Some d → HasAction rules p (shift d)
  pub all : (p d : ℕ) → p ≤ last → HasAction rules p (shift d) → slice_index_or directions p None ≡ Some d

-- The directions of all shifts of the rules.
abbrev pub AreDirections : Expression → List (Option ℕ) → Type 0
AreDirections rules = AreDirectionsUpTo rules (length (positions_of rules))

-- Position p leads from vertex v to vertex u: a shift leads to the end of its edge, and any other action stays at v.
pub data Comes (game : AbstractGame) : (v p u : ℕ) → Type 0 where
  by_shift : {v p u : ℕ} (d : ℕ) → HasAction game.rules p (shift d) → next game.board v d ≡ Some u → Comes game v p u
  by_other : {v p : ℕ} → ¬ IsShiftAt game.rules p → Comes game v p v

-- The list and the bit are what is asked of the steps of the rules at f.
pub record IsAnswerAt (rules : Expression) (f : Start) (list : List ℕ) (may_end : Bool) : Type 0 where
  pub follow : AreAllThatFollow rules f list
  pub ends : IsTrue may_end ↔ Ends rules f []

-- A leap from vertex v, from every point in the rules after which the list comes next and words may end as `may_end`
-- has it.
pub record IsLeapBy (game : AbstractGame) (list : List ℕ) (may_end : Bool) (v j u : ℕ) : Type 0 where
  pub leap : (f : Start) → IsAnswerAt game.rules f list may_end → IsLeap game f v j u

-- A word may end with shifts alone from vertex v, from every point in the rules after which the list comes next and
-- words may end as `may_end` has it.
pub record EndsBy (game : AbstractGame) (list : List ℕ) (may_end : Bool) (v : ℕ) : Type 0 where
  pub ends : (f : Start) → IsAnswerAt game.rules f list may_end → EndsAcross game f v

-- The list has this position alone.
pub record IsOnly (list : List ℕ) (p : ℕ) : Type 0 where
  pub one : length list ≡ 1
  pub listed : slice_index_or list 0 p ≡ p
