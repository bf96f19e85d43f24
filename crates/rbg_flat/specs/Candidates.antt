-- What may come next with no modifier before it.
use Rattle.std.specs.Prelude.{◌≡◌, ℕ, List, [], ◌∷◌, ◌++◌}
use Rattle.rbg_rules.specs.Meaning.{HasNoModifier, Start, Follows, Ends, AbstractGame, AbstractState, Run}
use Rattle.rbg_shifts.specs.Leaps.{IsShiftAt}

-- Position p, which is no shift, may come next at vertex v, with no modifier before it: some positions without a
-- modifier run from s to a semi-state at v, and p follows them there.
pub record IsCandidate (game : AbstractGame) (s : AbstractState) (f : Start) (v p : ℕ) : Type 0 where
  pub before : List ℕ
  pub here : AbstractState
  pub no_modifier : HasNoModifier game.rules before
  pub runs : Run game before s here
  pub vertex : here.vertex ≡ v
  pub follows : Follows game.rules f (before ++ p ∷ [])
  pub plain : ¬ IsShiftAt game.rules p

-- Position p may come next at vertex v, with no modifier before it: some positions without a modifier run from s to a
-- semi-state at v, and p follows them there. It may be a shift.
pub record MayCome (game : AbstractGame) (s : AbstractState) (f : Start) (v p : ℕ) : Type 0 where
  pub before : List ℕ
  pub here : AbstractState
  pub no_modifier : HasNoModifier game.rules before
  pub runs : Run game before s here
  pub vertex : here.vertex ≡ v
  pub follows : Follows game.rules f (before ++ p ∷ [])

-- A word may end with no modifier more: some positions without a modifier run from s, and they are all that follows f
-- in a word.
pub record MayEnd (game : AbstractGame) (s : AbstractState) (f : Start) : Type 0 where
  pub before : List ℕ
  pub here : AbstractState
  pub no_modifier : HasNoModifier game.rules before
  pub runs : Run game before s here
  pub ends : Ends game.rules f before
