-- The two ways in which a flat part is led on: by leaps, which go over shifts, or step by step, where a shift is met as any
-- other action and leads along its edge.
use Rattle.std.specs.Prelude.{◌≡◌, ℕ, [], ◌∷◌, Some}
use Rattle.rbg_board.specs.Graph.{next}
use Rattle.rbg_rules.specs.Meaning.{shift, HasAction, Start, after, Follows, Ends, AbstractGame, AbstractState}
use Rattle.rbg_shifts.specs.Leaps.{IsShiftAt, IsLeap, EndsAcross}
use Rattle.rbg_flat.specs.Candidates.{IsCandidate, MayCome}

pub data Way : Type 0 where
  leaping : Way
  stepping : Way

-- After position q, which was tried at vertex v and holds, one stands at vertex u: a shift leads along an edge, and all
-- else stays.
pub data Moves (game : AbstractGame) (q : ℕ) : (v u : ℕ) → Type 0 where
  stays : {v : ℕ} → ¬ IsShiftAt game.rules q → Moves game q v v
  goes : {v u : ℕ} (d : ℕ) → HasAction game.rules q (shift d) → next game.board v d ≡ Some u → Moves game q v u

-- From f at vertex v one is led to position p at vertex u.
abbrev pub IsFirstLead : Way → AbstractGame → Start → (v p u : ℕ) → Type 0
IsFirstLead leaping game f v p u = IsLeap game f v p u
IsFirstLead stepping game f v p u = (u ≡ v) × Follows game.rules f (p ∷ [])

-- A word may end from f at vertex v, without more than one is led over.
abbrev pub EndsFirst : Way → AbstractGame → Start → (v : ℕ) → Type 0
EndsFirst leaping game f v = EndsAcross game f v
EndsFirst stepping game f v = Ends game.rules f []

-- Position p comes directly after position q, which was tried at vertex v and led to vertex u.
pub record IsStep (game : AbstractGame) (q v p u : ℕ) : Type 0 where
  pub moves : Moves game q v u
  pub follows : Follows game.rules (after q) (p ∷ [])

-- A word ends after position q, which was tried at vertex v.
pub record EndsStep (game : AbstractGame) (q v : ℕ) : Type 0 where
  pub to : ℕ
  pub moves : Moves game q v to
  pub ends : Ends game.rules (after q) []

-- From position q, which holds at vertex v, one is led to position p at vertex u.
abbrev pub IsLead : Way → AbstractGame → (q v p u : ℕ) → Type 0
IsLead leaping game q v p u = IsLeap game (after q) v p u
IsLead stepping game q v p u = IsStep game q v p u

-- A word may end after position q, which holds at vertex v, without more than one is led over.
abbrev pub EndsLead : Way → AbstractGame → (q v : ℕ) → Type 0
EndsLead leaping game q v = EndsAcross game (after q) v
EndsLead stepping game q v = EndsStep game q v

-- What a flat part has that is led on so: the candidates, and shifts where they are met.
abbrev pub IsOfPart : Way → AbstractGame → AbstractState → Start → (v p : ℕ) → Type 0
IsOfPart leaping game s f v p = IsCandidate game s f v p
IsOfPart stepping game s f v p = MayCome game s f v p
