-- What each action does (paper: the table of actions), and runs of actions.
use Rattle.std.specs.Prelude.{◌≡◌, ℕ, ◌≤◌, ◌⊎◌, List, [], ◌∷◌, ℤ, pos, slice_index, slice_set, Contains, Some}
use Rattle.rbg_board.specs.Graph.{next}
use Rattle.rbg_rules.specs.Expression.{AbstractAction, shift, on, off, assignment, comparison, switch, positive, negative, Expression, act, skip, sequence, fail, choice, star}
use Rattle.rbg_rules.specs.Positions.{HasAction}
use Rattle.rbg_rules.specs.Words.{Word}
use Rattle.rbg_rules.specs.State.{AbstractGame, AbstractState}
use Rattle.rbg_rules.specs.Values.{value_of, Relates}

-- The actions of w, applied in turn, take s to t. What the action at a position does is given.
pub data Runs (Does : ℕ → AbstractState → AbstractState → Type 0) :
    List ℕ → AbstractState → AbstractState → Type 0
  where
    rest : {s : AbstractState} → Runs Does [] s s
    step :
        {p : ℕ} {w : List ℕ} {s middle t : AbstractState} →
        Does p s middle →
        Runs Does w middle t →
        Runs Does (p ∷ w) s t

abbrev mutual
  -- The action takes s to t: it is valid in s, and t is s with its effect.
  --   shift: the current vertex has an edge in that direction, and becomes the edge's end
  --   on: the piece on the current vertex is in the set (never in an empty one)
  --   off: always valid; the piece is then on the current vertex
  --   assignment: the expression has a value from 0 to the variable's bound, and the variable gets it
  --   comparison: both expressions have values, and the relation holds between them
  --   switch: always valid; that player, or the keeper, becomes the current one
  --   positive pattern: some word of its inner expression runs from s. Nothing changes.
  --   negative pattern: no word of its inner expression runs from s. Nothing changes.
  pub Acts : AbstractGame → AbstractAction → AbstractState → AbstractState → Type 0
  Acts game (shift d) s t = (v : ℕ) × (next game.board s.vertex d ≡ Some v) × (t ≡ record s { vertex = v })
  Acts game (on xs) s t = Contains xs (slice_index s.pieces s.vertex) × (t ≡ s)
  Acts game (off x) s t = t ≡ record s { pieces = slice_set s.pieces s.vertex x }
  Acts game (assignment v e) s t =
      (n : ℕ) ×
      (value_of e s ≡ Some (pos n)) ×
      (n ≤ slice_index game.bounds v) ×
      (t ≡ record s { values = slice_set s.values v n })
  Acts game (comparison e r f) s t =
      (x : ℤ) × (y : ℤ) ×
      (value_of e s ≡ Some x) ×
      (value_of f s ≡ Some y) ×
      Relates r x y ×
      (t ≡ s)
  Acts game (switch n) s t = t ≡ record s { player = n }
  Acts game (positive x) s t =
      ((w : List ℕ) × (end : AbstractState) × Word x w × Runs (ActsIn game x) w s end) ×
      (t ≡ s)
  Acts game (negative x) s t =
      (((w : List ℕ) × (end : AbstractState) × Word x w × Runs (ActsIn game x) w s end) → ⊥) ×
      (t ≡ s)

  -- The action at position p, which belongs directly to the expression, takes s to t.
  pub ActsIn : AbstractGame → Expression → ℕ → AbstractState → AbstractState → Type 0
  ActsIn game (act q a) p s t = (p ≡ q) × Acts game a s t
  ActsIn game skip p s t = ⊥
  ActsIn game (sequence x y) p s t = ActsIn game x p s t ⊎ ActsIn game y p s t
  ActsIn game fail p s t = ⊥
  ActsIn game (choice x y) p s t = ActsIn game x p s t ⊎ ActsIn game y p s t
  ActsIn game (star x) p s t = ActsIn game x p s t

-- The action at position p of the game, also inside a pattern, takes s to t.
pub record Applies (game : AbstractGame) (p : ℕ) (s t : AbstractState) : Type 0 where
  pub action : AbstractAction
  pub stands : HasAction game.rules p action
  pub acts : Acts game action s t

-- The actions at the positions w of the game, applied in turn, take s to t.
abbrev pub Run : AbstractGame → List ℕ → AbstractState → AbstractState → Type 0
Run game w s t = Runs (Applies game) w s t
