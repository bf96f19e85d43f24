-- Where shifts alone lead.
use Rattle.std.specs.Prelude.{◌≡◌, ℕ, List, [], ◌∷◌, ◌++◌, Some}
use Rattle.rbg_board.specs.Graph.{next}
use Rattle.rbg_rules.specs.Meaning.{Expression, shift, HasAction, AbstractGame, Start, Follows, Ends}

-- A shift is at the position.
pub record IsShiftAt (rules : Expression) (p : ℕ) : Type 0 where
  pub direction : ℕ
  pub stands : HasAction rules p (shift direction)

-- The shifts at the positions lead, one after the other, from vertex v to vertex u. No shift leads from v to v.
pub data Leads (game : AbstractGame) : (v : ℕ) → List ℕ → (u : ℕ) → Type 0 where
  stay : {v : ℕ} → Leads game v [] v
  go :
      {v w u p : ℕ} {m : List ℕ} (d : ℕ) →
      HasAction game.rules p (shift d) →
      next game.board v d ≡ Some w →
      Leads game w m u →
      Leads game v (p ∷ m) u

-- A leap: from f and vertex v shifts alone lead to vertex u, where position j comes next, which is no shift.
pub record IsLeap (game : AbstractGame) (f : Start) (v j u : ℕ) : Type 0 where
  pub shifts : List ℕ
  pub leads : Leads game v shifts u
  pub follows : Follows game.rules f (shifts ++ j ∷ [])
  pub plain : ¬ IsShiftAt game.rules j

-- A word may end with shifts alone, or with nothing, from f and vertex v.
pub record EndsAcross (game : AbstractGame) (f : Start) (v : ℕ) : Type 0 where
  pub shifts : List ℕ
  pub to : ℕ
  pub leads : Leads game v shifts to
  pub ends : Ends game.rules f shifts
