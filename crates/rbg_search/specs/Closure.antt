-- The flat part as what a search takes up step by step.
use Rattle.std.specs.Prelude.{◌≡◌, ℕ, ◌⊎◌, [], ◌∷◌}
use Rattle.rbg_rules.specs.Meaning.{IsModifierAt, Start, after, Follows, Ends, AbstractGame, AbstractState, Applies, SomeWordRuns}
pub use Rattle.rbg_state.specs.Trials.{at_vertex}

-- An action that is no modifier leads from one vertex to the other.
pub record Leads (game : AbstractGame) (s : AbstractState) (v q u : ℕ) : Type 0 where
  pub quiet : ¬ IsModifierAt game.rules q
  pub applies : Applies game q (at_vertex s v) (at_vertex s u)

-- Position p may come next at vertex v: it can come first, or after an action that leads to v from where it may come.
pub data IsReached (game : AbstractGame) (s : AbstractState) (f : Start) : (v p : ℕ) → Type 0 where
  first : {v p : ℕ} → v ≡ s.vertex → Follows game.rules f (p ∷ []) → IsReached game s f v p
  then :
      {v q u p : ℕ} →
      IsReached game s f v q →
      Leads game s v q u →
      Follows game.rules (after q) (p ∷ []) →
      IsReached game s f u p

-- A modifier that may come next is valid.
pub record IsFound (game : AbstractGame) (s : AbstractState) (f : Start) (v p : ℕ) : Type 0 where
  pub later : AbstractState
  pub reached : IsReached game s f v p
  pub modifies : IsModifierAt game.rules p
  pub applies : Applies game p (at_vertex s v) later

-- An action that is no modifier leads to the end of a word.
pub record LeadsToEnd (game : AbstractGame) (s : AbstractState) (v q : ℕ) : Type 0 where
  pub to : ℕ
  pub leads : Leads game s v q to
  pub ends : Ends game.rules (after q) []

-- A word may end where one stands, or after an action that may come next.
pub record ReachedEnd (game : AbstractGame) (s : AbstractState) (f : Start) : Type 0 where
  pub vertex : ℕ
  pub position : ℕ
  pub reached : IsReached game s f vertex position
  pub leads : LeadsToEnd game s vertex position

abbrev pub EndsFlat : AbstractGame → AbstractState → Start → Type 0
EndsFlat game s f = Ends game.rules f [] ⊎ ReachedEnd game s f

-- After a modifier that may come next some word runs.
pub record RunsAfter (game : AbstractGame) (s : AbstractState) (f : Start) : Type 0 where
  pub vertex : ℕ
  pub position : ℕ
  pub found : IsFound game s f vertex position
  pub runs : SomeWordRuns game found.later (after position)
