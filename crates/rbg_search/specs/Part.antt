-- A flat part that is being found.
use Rattle.std.specs.Prelude.{◌≡◌, ◌≢◌, ℕ, ◌⊎◌, List, [], ◌∷◌, All, AllPairs, Contains, Bool, Decides}
use Rattle.rbg_rules.specs.Meaning.{IsModifierAt, Start, after, Follows, Ends, AbstractGame, AbstractState, Applies}
use Rattle.rbg_search.specs.Closure.{at_vertex, Leads, IsReached, IsFound, LeadsToEnd}
use Rattle.rbg_state.specs.declared.state.trials.Trial.{Trial}
use Rattle.rbg_state.specs.declared.state.trials.Trial.TheVariants.{Invalid, Modifies, LeadsTo}

-- What becomes of the action at position q where it is tried at vertex v.
abbrev pub IsTrialAt : AbstractGame → AbstractState → (v q : ℕ) → Trial → Type 0
IsTrialAt game s v q Invalid = (t : AbstractState) → ¬ Applies game q (at_vertex s v) t
IsTrialAt game s v q Modifies = IsModifierAt game.rules q × ((t : AbstractState) × Applies game q (at_vertex s v) t)
IsTrialAt game s v q (LeadsTo u) = Leads game s v q u × ((w : ℕ) → Leads game s v q w → w ≡ u)

-- One of the pairs leads to the end of a word.
pub record SomeLeadsToEnd (game : AbstractGame) (s : AbstractState) (pairs : List (ℕ × ℕ)) : Type 0 where
  pub vertex : ℕ
  pub position : ℕ
  pub there : Contains pairs (vertex, position)
  pub leads : LeadsToEnd game s vertex position

-- The pairs were met, and those that are done were tried.
--   sound: each pair may come next
--   begun: those that may come first were met
--   closed: those that may come after one that is done were met
--   among, valid, all, different: found are the modifiers that are done and valid, each once
--   may_end: `ends` tells whether a word may end where one stands, or after a pair that is done
pub record IsPart
    (game : AbstractGame) (s : AbstractState) (f : Start) (pairs done found : List (ℕ × ℕ)) (ends : Bool)
    : Type 0
  where
    pub sound : All (λ q. IsReached game s f q.0 q.1) pairs
    pub begun : (p : ℕ) → Follows game.rules f (p ∷ []) → Contains pairs (s.vertex, p)
    pub closed :
        (v q u p : ℕ) → Contains done (v, q) → Leads game s v q u → Follows game.rules (after q) (p ∷ []) →
        Contains pairs (u, p)
    pub among : All (Contains done) found
    pub valid : All (λ q. IsFound game s f q.0 q.1) found
    pub all : (v p : ℕ) → Contains done (v, p) → IsFound game s f v p → Contains found (v, p)
    pub different : AllPairs (λ a b. a ≢ b) found
    pub may_end : Decides ends (Ends game.rules f [] ⊎ SomeLeadsToEnd game s done)
