-- Where an action passes.
use Rattle.std.specs.Prelude.{◌≡◌, ℕ, List, Contains, slice_get, Some}
use Rattle.rbg_base.specs.declared.relation.Relation.{Relation}
use Rattle.rbg_rules.specs.Meaning.{AbstractArithmetic, on, comparison, HasAction, IsModifierAt, AbstractGame, AbstractState}
use Rattle.rbg_flat.specs.Chains.{Holds}

-- One of the pieces stands on the vertex.
pub record IsOneOf (wanted pieces : List ℕ) (v : ℕ) : Type 0 where
  pub piece : ℕ
  pub listed : Contains wanted piece
  pub stands : slice_get pieces v ≡ Some piece

-- What was met at a vertex is to be looked at: no modifier stands at the position; where an on stands there, one of its
-- pieces stands on the vertex; and a comparison that stands there holds.
pub record IsToTry (game : AbstractGame) (s : AbstractState) (v p : ℕ) : Type 0 where
  pub quiet : ¬ IsModifierAt game.rules p
  pub stands : (wanted : List ℕ) → HasAction game.rules p (on wanted) → IsOneOf wanted s.pieces v
  pub holds :
      (e : AbstractArithmetic) (r : Relation) (f : AbstractArithmetic) →
      HasAction game.rules p (comparison e r f) →
      Holds game s v p
