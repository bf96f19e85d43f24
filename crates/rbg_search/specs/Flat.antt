-- The flat part of an opening: what is reached from a semi-state without a modifier.
use Rattle.std.specs.Prelude.{◌≡◌, ◌≢◌, ℕ, ◌↔◌, List, [], ◌∷◌, ◌++◌, Contains, AllPairs, Bool, Decides}
use Rattle.rbg_rules.specs.Meaning.{IsModifierAt, HasNoModifier, Start, Follows, AbstractGame, AbstractState, Applies, Run}
use Rattle.rbg_flat.specs.Candidates.{MayEnd}
pub use Rattle.rbg_flat.specs.Order.{IsBefore}

-- The modifier at position p comes next from s and f, with no modifier before it, and is valid at vertex v: some
-- positions without a modifier run from s to a semi-state at v, p follows them there, and it can be applied.
pub record IsNext (game : AbstractGame) (s : AbstractState) (f : Start) (v p : ℕ) : Type 0 where
  pub before : List ℕ
  pub here : AbstractState
  pub later : AbstractState
  pub no_modifier : HasNoModifier game.rules before
  pub runs : Run game before s here
  pub vertex : here.vertex ≡ v
  pub follows : Follows game.rules f (before ++ p ∷ [])
  pub modifies : IsModifierAt game.rules p
  pub applies : Applies game p here later

-- Found are the modifiers that come next, each once; and `ends` tells whether a word may end with no modifier more.
pub record IsFlatPart
    (game : AbstractGame) (s : AbstractState) (f : Start) (found : List (ℕ × ℕ)) (ends : Bool)
    : Type 0
  where
    pub next : (v p : ℕ) → Contains found (v, p) ↔ IsNext game s f v p
    pub different : AllPairs (λ a b. a ≢ b) found
    pub may_end : Decides ends (MayEnd game s f)
