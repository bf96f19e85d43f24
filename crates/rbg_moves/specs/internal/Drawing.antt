-- A legal move that is drawn by chance, pair by pair.
use Rattle.std.specs.Prelude.{◌≡◌, ℕ, ◌≤◌, List, ◌++◌, length, Option}
use Rattle.rbg_base.specs.Move.{IsMoveLength}
use Rattle.rbg_rules.specs.Meaning.{AbstractGame, AbstractState, AbstractPlace, IsLegal, Start}
use Rattle.rbg_search.specs.Flat.{IsNext}
use Rattle.rbg_state.specs.History.{History}
use Rattle.rbg_moves.specs.declared.drawing.Drawn.{Drawn}
use Rattle.rbg_moves.specs.declared.drawing.Drawn.TheVariants.{Move, Blank}
use Rattle.rbg_moves.specs.internal.Stepping.{IsValidAt}

-- The modifier of the pair comes next, and is valid at its vertex.
pub record ComesNext (game : AbstractGame) (s : AbstractState) (f : Start) (q : ℕ × ℕ) : Type 0 where
  pub next : IsNext game s f q.0 q.1
  pub valid : IsValidAt game s q.0 q.1

-- The pairs of a legal move of the place were put after those that were there. All together are no more than a move may
-- have.
pub record AddsMoveOf (game : AbstractGame) (place : AbstractPlace) (old new : List (ℕ × ℕ)) : Type 0 where
  pub pairs : List (ℕ × ℕ)
  pub legal : IsLegal game place pairs
  pub grown : new ≡ old ++ pairs
  pub sized : IsMoveLength (length new)

-- A ticket was followed from a semi-state and after this last position: it is that of a legal move, whose pairs were put
-- after the front; or it is that of no move, and all is as it was.
abbrev pub Follows :
    AbstractGame → Option ℕ → (old new : History) → (front front' : List (ℕ × ℕ)) → Drawn → Type 0
Follows game last old new front front' Move = AddsMoveOf game (record { state = old.state; last = last }) front front'
Follows game last old new front front' (Blank moves) =
    (new ≡ record old { room = new.room }) × ((old.room ≤ new.room) × (front' ≡ front))
