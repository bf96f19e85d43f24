-- A walk through what may come next, one vertex after another.
use Rattle.std.specs.Prelude.{◌≡◌, ◌≢◌, ◌⊎◌, ◌↔◌, ◌+◌, ◌%◌, ◌<◌, ◌≤◌, ℕ, List, length, slice_get, slice_index, take, Some, AllPairs, Bool, Contains, IsTrue}
use Rattle.std.specs.Int.{bit_at}
use Rattle.rbg_rules.specs.Meaning.{IsModifierAt, IsPatternAt, AbstractGame, AbstractState, Start}
use Rattle.rbg_shifts.specs.declared.target.Target.{Target}
use Rattle.rbg_flat.specs.declared.walk.Walk.{Walk}
use Rattle.rbg_flat.specs.Chains.{Holds}
use Rattle.rbg_flat.specs.Ways.{leaping}
use Rattle.rbg_flat.specs.internal.Begun.{IsBegun}
use Rattle.rbg_flat.specs.internal.Leading.{IsPositionIn}
use Rattle.rbg_flat.specs.internal.Passing.{IsToTry}
use Rattle.rbg_flat.specs.internal.Sets.{IsInWord}

-- Neither a modifier nor a pattern stands at the position, and where what was met at the vertex is to be looked at, it
-- passes.
pub record IsPassage (game : AbstractGame) (s : AbstractState) (v p : ℕ) : Type 0 where
  pub quiet : ¬ IsModifierAt game.rules p
  pub plain : ¬ IsPatternAt game.rules p
  pub passes : IsToTry game s v p → Holds game s v p

-- The target has one vertex, at which there is a passage, and it is told whether it is to be looked at there.
pub record IsPassable (game : AbstractGame) (s : AbstractState) (t : Target) (opens : Bool) : Type 0 where
  pub vertex : ℕ
  pub there : IsInWord t.position t.column t.word vertex t.position
  pub only : (v p : ℕ) → IsInWord t.position t.column t.word v p → v ≡ vertex
  pub passage : IsPassage game s vertex t.position
  pub told : IsTrue opens ↔ IsToTry game s vertex t.position

-- The position at the vertex waits: nothing was led on from it yet.
abbrev pub IsWaiting : Walk → (v p : ℕ) → Type 0
IsWaiting walk v p = Contains (take walk.waiting walk.todo) (v, p)

-- The bit of the vertex is set in the word of marks of the position.
abbrev pub IsNoted : Walk → (v p : ℕ) → Type 0
IsNoted walk v p = bit_at (slice_index walk.marks (p % 16)) (v % 64) ≡ 1

-- These pairs were met on the walk, each once. Each is a passage and has its mark, and what waits is among them.
pub record IsWalk (game : AbstractGame) (s : AbstractState) (walk : Walk) : Type 0 where
  pub marks : length walk.marks ≡ 16
  pub todo : length walk.todo ≡ 8
  pub pairs : List (ℕ × ℕ)
  pub different : AllPairs (λ a b. a ≢ b) pairs
  pub count : length pairs ≡ walk.many
  pub vertex : (v p : ℕ) → Contains pairs (v, p) → v < length game.board.first
  pub position : (v p : ℕ) → Contains pairs (v, p) → IsPositionIn game p
  pub passage : (v p : ℕ) → Contains pairs (v, p) → IsPassage game s v p
  pub noted : (v p : ℕ) → Contains pairs (v, p) → IsNoted walk v p
  pub room : walk.waiting ≤ 8
  pub waits : (v p : ℕ) → IsWaiting walk v p → Contains pairs (v, p)

-- The walk went on: these vertices with positions were met besides, and those of them that are to be looked at wait.
pub record GoesOn
    (game : AbstractGame) (s : AbstractState) (old : Walk) (was : IsWalk game s old) (new : Walk)
    (In : (v p : ℕ) → Type 0)
    : Type 0
  where
    pub now : IsWalk game s new
    pub kept : (v p : ℕ) → Contains was.pairs (v, p) → Contains now.pairs (v, p)
    pub met : (v p : ℕ) → In v p → Contains now.pairs (v, p)
    pub only : (v p : ℕ) → Contains now.pairs (v, p) → Contains was.pairs (v, p) ⊎ In v p
    pub still : (v p : ℕ) → IsWaiting old v p → IsWaiting new v p
    pub opens : (v p : ℕ) → In v p → IsToTry game s v p → IsWaiting new v p
    pub no_other : (v p : ℕ) → IsWaiting new v p → IsWaiting old v p ⊎ (In v p × IsToTry game s v p)

-- The last that waited is taken.
pub record TakesLast (old new : Walk) (v p : ℕ) : Type 0 where
  pub rest : new ≡ record old { waiting = new.waiting }
  pub less : old.waiting ≡ new.waiting + 1
  pub last : slice_get old.todo new.waiting ≡ Some (v, p)

-- What was met on the walk is what may come next from f in the semi-state `here`, but for what follows from what waits.
pub record Walks (game : AbstractGame) (s here : AbstractState) (f : Start) (walk : Walk) (ends : Bool) : Type 0 where
  pub is_walk : IsWalk game s walk
  pub begun : IsBegun leaping game here f (λ v p. Contains is_walk.pairs (v, p)) (IsWaiting walk) ends
