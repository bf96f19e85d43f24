-- One modifier of a move, and the place after it.
use Rattle.std.specs.Prelude.{◌≡◌, ℕ, ◌<◌, List, [], length, false, Option, Some, None, Result, Err, IfOk, IfSome, OnOk}
use Rattle.rbg_rules.specs.Meaning.{IsModifierAt, AbstractGame, AbstractState, Applies, AbstractPlace, Legal, point_of, IsPlaceOf, try_move, IsDeep, Start}
use Rattle.rbg_search.specs.Flat.{IsNext}
use Rattle.rbg_search.specs.Start.{IsPositionOf}
use Rattle.rbg_search.specs.Counting.{CountsOpenings, IsOverBudget}
use Rattle.rbg_search.specs.Forced.{CountsForced}
use Rattle.rbg_search.specs.Searching.{Searching}
use Rattle.rbg_search.specs.Taken.{CountsPairs}
use Rattle.rbg_search.specs.declared.over.Over.{Over}
use Rattle.rbg_search.specs.declared.over.Over.TheVariants.{Deep, Wide}
pub use Rattle.rbg_state.specs.Trials.{at_vertex}

-- The place in the middle of a move, after the modifier at position p.
abbrev pub place_beyond : AbstractState → ℕ → AbstractPlace
place_beyond later p = record { state = later; last = Some p }

-- What is so of each semi-state to which the modifier of the pair q leads.
abbrev pub Beyond : AbstractGame → AbstractState → ℕ × ℕ → (AbstractState → Type 0) → Type 0
Beyond game s q Is = (later : AbstractState) → Applies game q.1 (at_vertex s q.0) later → Is later

-- The modifier at position p is valid at vertex v.
pub record IsValidAt (game : AbstractGame) (s : AbstractState) (v p : ℕ) : Type 0 where
  pub there : v < length game.board.first
  pub modifies : IsModifierAt game.rules p
  pub later : AbstractState
  pub applies : Applies game p (at_vertex s v) later

-- The modifier at position p comes next at vertex v, and leads to `later`, which is a semi-state of the game.
pub record IsStep (game : AbstractGame) (s : AbstractState) (f : Start) (v p : ℕ) (later : AbstractState) : Type 0 where
  pub next : IsNext game s f v p
  pub applies : Applies game p (at_vertex s v) later
  pub position : IsPositionOf game.rules p
  pub in_game : IsPlaceOf game (place_beyond later p)

-- A move goes on from the place: it ends at the other one, or nothing of it is left there.
pub data IsMadeFrom (game : AbstractGame) (place : AbstractPlace) : List (ℕ × ℕ) → AbstractPlace → Type 0 where
  made : IsMadeFrom game place [] place
  goes_on : {ps : List (ℕ × ℕ)} {to : AbstractPlace} → Legal game place ps to → IsMadeFrom game place ps to

-- What became of the pairs: they lead to this semi-state, after the switch at the position; or they are no legal move.
abbrev pub IsTried :
    AbstractGame → AbstractPlace → List (ℕ × ℕ) → AbstractState → Option ℕ → Type 0
IsTried game place ps new (Some last) = Legal game place ps (place_beyond new last)
IsTried game place ps new None = (to : AbstractPlace) → ¬ Legal game place ps to

-- The pairs were followed from the place as far as they come next one after another: what became of them, and what was
-- counted of the question whether they are a move. Where they are, all that is forced was taken up.
pub record IsFollowed
    (old new : Searching) (place : AbstractPlace) (pairs : List (ℕ × ℕ)) (to : AbstractState)
    (result : Result (Option ℕ) Over)
    : Type 0
  where
    pub tried : IfOk result (IsTried old.game place pairs to)
    pub deep : result ≡ Err Deep → IsDeep old.game (try_move pairs) place.state (point_of place.last) old.modifiers
    pub wide :
        result ≡ Err Wide →
        IsOverBudget old.game (try_move pairs) place.state (point_of place.last) old.opened old.openings
    pub counted :
        OnOk result (CountsOpenings old.game (try_move pairs) place.state (point_of place.last) old.opened new.opened)
    pub paired :
        OnOk result
        (CountsPairs old.game (try_move pairs) place.state (point_of place.last)
        old.opened new.opened old.taken new.taken (Unit {0}))
    pub forced :
        IfOk result (λ end. IfSome end (λ _.
        CountsForced old.game false (try_move pairs) place.state (point_of place.last)
        old.opened new.opened (length pairs) old.modifiers))
