-- Targets from which nothing goes on.
use Rattle.std.specs.Prelude.{◌≡◌, ◌≢◌, ◌↔◌, ◌<◌, ◌≤◌, ℕ, List, length, All, AllPairs, Contains}
use Rattle.rbg_rules.specs.Meaning.{IsModifierAt, positions_of, AbstractGame, AbstractState}
use Rattle.rbg_shifts.specs.declared.target.Target.{Target}
use Rattle.rbg_flat.specs.internal.Leading.{IsAmong, IsTargetFor}
use Rattle.rbg_flat.specs.internal.Passing.{IsToTry}
use Rattle.rbg_flat.specs.internal.Sets.{IsInWord}

-- The target is at a position of the game, and has a vertex.
pub record IsFilledTarget (game : AbstractGame) (t : Target) : Type 0 where
  pub target : IsTargetFor game t
  pub some : 0 < t.word

-- No modifier stands at the position, and what was met at the vertex isn't to be looked at.
pub record IsDead (game : AbstractGame) (s : AbstractState) (v p : ℕ) : Type 0 where
  pub quiet : ¬ IsModifierAt game.rules p
  pub closed : ¬ IsToTry game s v p

-- The target has one vertex, and is dead there.
pub record IsDeadTarget (game : AbstractGame) (s : AbstractState) (t : Target) : Type 0 where
  pub vertex : ℕ
  pub there : IsInWord t.position t.column t.word vertex t.position
  pub only : (v p : ℕ) → IsInWord t.position t.column t.word v p → v ≡ vertex
  pub dead : IsDead game s vertex t.position

-- The targets have one vertex each, at greater and greater positions up to the last one, and each is dead. The pairs are
-- the vertex of each target with its position.
pub record AreDead (game : AbstractGame) (s : AbstractState) (targets : List Target) (last : ℕ) : Type 0 where
  pub pairs : List (ℕ × ℕ)
  pub all : (v p : ℕ) → Contains pairs (v, p) ↔ IsAmong targets v p
  pub different : AllPairs (λ a b. a ≢ b) pairs
  pub count : length pairs ≡ length targets
  pub dead : (v p : ℕ) → IsAmong targets v p → IsDead game s v p
  pub up_to : All (λ q. q.1 ≤ last) pairs
  pub few : length targets ≤ last
  pub there : last ≤ length (positions_of game.rules)
