-- What is met along leads: what holds where one is led leads on.
use Rattle.std.specs.Prelude.{◌⊎◌, ◌↔◌, ℕ}
use Rattle.rbg_rules.specs.Meaning.{IsNumbered, IsModifierAt, Start, AbstractGame, AbstractState, Applies}
use Rattle.rbg_flat.specs.Candidates.{MayEnd}
use Rattle.rbg_flat.specs.Ways.{Way, IsFirstLead, EndsFirst, IsLead, EndsLead, IsOfPart}
pub use Rattle.rbg_state.specs.Trials.{at_vertex}

-- The action at position q is no modifier, and holds at vertex v.
pub record Holds (game : AbstractGame) (s : AbstractState) (v q : ℕ) : Type 0 where
  pub to : ℕ
  pub quiet : ¬ IsModifierAt game.rules q
  pub applies : Applies game q (at_vertex s v) (at_vertex s to)

-- One is led from f to position p at vertex v, or from what was met so and holds.
pub data IsMet (way : Way) (game : AbstractGame) (s : AbstractState) (f : Start) : (v p : ℕ) → Type 0 where
  first : {v p : ℕ} → IsFirstLead way game f s.vertex p v → IsMet way game s f v p
  then :
      {v q u p : ℕ} →
      IsMet way game s f v q →
      Holds game s v q →
      IsLead way game q v p u →
      IsMet way game s f u p

-- After what was met and holds, a word may end.
pub record EndsAfter (way : Way) (game : AbstractGame) (s : AbstractState) (f : Start) : Type 0 where
  pub vertex : ℕ
  pub position : ℕ
  pub met : IsMet way game s f vertex position
  pub holds : Holds game s vertex position
  pub ends : EndsLead way game position vertex

-- A word may end so, or at the beginning.
abbrev pub EndsMet : Way → AbstractGame → AbstractState → Start → Type 0
EndsMet way game s f = EndsFirst way game f s.vertex ⊎ EndsAfter way game s f

-- What is met is what the flat part has, and words may end where it is told so. Both ways tell the same.
abbrev pub ChainLaw : Type 0
ChainLaw =
    (way : Way) (game : AbstractGame) → IsNumbered game.rules → (s : AbstractState) (f : Start) →
    ((v p : ℕ) → IsMet way game s f v p ↔ IsOfPart way game s f v p) × (EndsMet way game s f ↔ MayEnd game s f)
