-- Places, moves and the end of play.
use Rattle.std.specs.Prelude.{◌≡◌, ℕ, List, [], ◌∷◌, ◌++◌, true, false, Option, Some, None}
use Rattle.rbg_rules.specs.Positions.{is_modifier, IsSwitchAt, HasNoSwitch, outermost}
use Rattle.rbg_rules.specs.Words.{Start, beginning, after, Follows}
use Rattle.rbg_rules.specs.State.{AbstractGame, AbstractState}
use Rattle.rbg_rules.specs.Actions.{Applies}

-- w runs from s to t and leaves these pairs: for each modifier in order the vertex where it was applied and its
-- position. Other actions leave none.
pub data RunPairs (game : AbstractGame) : List ℕ → AbstractState → AbstractState → List (ℕ × ℕ) → Type 0 where
  stay : {s : AbstractState} → RunPairs game [] s s []
  modify :
      {p : ℕ} {w : List ℕ} {s middle t : AbstractState} {ps : List (ℕ × ℕ)} →
      (applied : Applies game p s middle) →
      is_modifier applied.action ≡ true →
      RunPairs game w middle t ps →
      RunPairs game (p ∷ w) s t ((s.vertex, p) ∷ ps)
  pass :
      {p : ℕ} {w : List ℕ} {s middle t : AbstractState} {ps : List (ℕ × ℕ)} →
      (applied : Applies game p s middle) →
      is_modifier applied.action ≡ false →
      RunPairs game w middle t ps →
      RunPairs game (p ∷ w) s t ps

-- A place: a semi-state with the position of the last action, or with none at the beginning of the rules.
pub record AbstractPlace : Type 0 where
  pub state : AbstractState
  pub last : Option ℕ

-- the point in the rules at which a place is: the beginning of the rules, or after its last action
abbrev pub point_of : Option ℕ → Start
point_of None = beginning outermost
point_of (Some i) = after i

-- The pairs are a move from one place to the other (paper): the rules allow a sequence of actions from the place that
-- can be carried out, has its only switch last, and leaves these pairs. The new place has the semi-state that they lead
-- to, and its last action is that switch. No limit is in it.
pub record Legal (game : AbstractGame) (from : AbstractPlace) (ps : List (ℕ × ℕ)) (to : AbstractPlace) : Type 0 where
  pub before : List ℕ
  pub last : ℕ
  pub follows : Follows game.rules (point_of from.last) (before ++ last ∷ [])
  pub runs : RunPairs game (before ++ last ∷ []) from.state to.state ps
  pub switches : IsSwitchAt game.rules last
  pub none_before : HasNoSwitch game.rules before
  pub stands : to.last ≡ Some last

-- The pairs are a legal move at the place.
abbrev pub IsLegal : AbstractGame → AbstractPlace → List (ℕ × ℕ) → Type 0
IsLegal game from ps = (to : AbstractPlace) × Legal game from ps to

-- Play is finished (paper; own: also if the keeper is to move): nothing is legal, however long.
pub record Finished (game : AbstractGame) (place : AbstractPlace) : Type 0 where
  pub no_move : (ps : List (ℕ × ℕ)) (to : AbstractPlace) → ¬ Legal game place ps to
