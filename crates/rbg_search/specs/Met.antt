-- Pairs that a flat part has met so far.
use Rattle.std.specs.Prelude.{ℕ, List, [], ◌∷◌, All, Contains}
use Rattle.rbg_rules.specs.Meaning.{Start, Follows, AbstractGame, AbstractState}
use Rattle.rbg_search.specs.Closure.{IsReached}

-- Each pair may come next, and those that may come first are among them.
pub record IsMetPart (game : AbstractGame) (s : AbstractState) (f : Start) (pairs : List (ℕ × ℕ)) : Type 0 where
  pub sound : All (λ q. IsReached game s f q.0 q.1) pairs
  pub begun : (p : ℕ) → Follows game.rules f (p ∷ []) → Contains pairs (s.vertex, p)
