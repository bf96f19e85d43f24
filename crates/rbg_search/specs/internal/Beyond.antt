-- What runs after the modifiers of a flat part.
use Rattle.std.specs.Prelude.{◌<◌, ℕ, List, length, Contains}
use Rattle.rbg_rules.specs.Meaning.{IsModifierAt, after, AbstractGame, AbstractState, Applies, SomeWordRuns}
use Rattle.rbg_search.specs.Closure.{at_vertex}
use Rattle.rbg_search.specs.Nesting.{NestsFrom}
use Rattle.rbg_search.specs.Start.{IsPositionOf}

-- The pair is a modifier that is valid at its vertex, and after it patterns nest at most `limit` deep.
pub record IsReady (game : AbstractGame) (s : AbstractState) (limit : ℕ) (pair : ℕ × ℕ) : Type 0 where
  pub later : AbstractState
  pub vertex : pair.0 < length s.pieces
  pub position : IsPositionOf game.rules pair.1
  pub modifies : IsModifierAt game.rules pair.1
  pub applies : Applies game pair.1 (at_vertex s pair.0) later
  pub nests : NestsFrom game.rules limit (after pair.1)

-- After the pair some word runs.
pub record RunsAfterPair (game : AbstractGame) (s : AbstractState) (v p : ℕ) : Type 0 where
  pub later : AbstractState
  pub applies : Applies game p (at_vertex s v) later
  pub runs : SomeWordRuns game later (after p)

-- After one of the pairs some word runs.
pub record SomeRunsAfter (game : AbstractGame) (s : AbstractState) (pairs : List (ℕ × ℕ)) : Type 0 where
  pub vertex : ℕ
  pub position : ℕ
  pub there : Contains pairs (vertex, position)
  pub beyond : RunsAfterPair game s vertex position
