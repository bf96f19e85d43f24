-- A straight line of actions that is scanned along.
use Rattle.std.specs.Prelude.{◌≢◌, ℕ, ◌<◌, List, [], ◌∷◌, ◌++◌, All, AllPairs, Bool}
use Rattle.rbg_rules.specs.Meaning.{IsPatternAt, Start, AbstractGame, AbstractState}
use Rattle.rbg_search.specs.Flat.{IsFlatPart}
use Rattle.rbg_search.specs.Closure.{IsReached}
use Rattle.rbg_search.specs.Part.{IsPart}
use Rattle.rbg_search.specs.Plain.{CountsPlain}
use Rattle.rbg_search.specs.Taken.{HasMet}

-- The flat part is whole: it has no modifier, no pattern may come in it, and `ends` tells whether a word may end.
pub record IsScanned (game : AbstractGame) (s : AbstractState) (f : Start) (ends : Bool) : Type 0 where
  pub part : IsFlatPart game s f [] ends
  pub quiet : (v p : ℕ) → IsReached game s f v p → ¬ IsPatternAt game.rules p

-- .. and so many pairs are met in it.
pub record IsTold (game : AbstractGame) (s : AbstractState) (f : Start) (ends : Bool) (many : ℕ) : Type 0 where
  pub scanned : IsScanned game s f ends
  pub taken : HasMet game s f (Unit {0}) (Unit {0}) many

-- So many pairs were tried so far, shifts among them or not, none at a pattern or a valid modifier, each at a position
-- before p; and position p at vertex v is all that is left.
pub record IsScanning
    (game : AbstractGame) (s : AbstractState) (f : Start) (v p : ℕ) (ends : Bool) (shifts : Bool) (many : ℕ)
    : Type 0
  where
    pub done : List (ℕ × ℕ)
    pub plain : CountsPlain shifts game.rules done many
    pub different : AllPairs (λ a b. a ≢ b) done
    pub before : All (λ q. q.1 < p) done
    pub part : IsPart game s f (done ++ (v, p) ∷ []) done [] ends
    pub quiet : All (λ q. ¬ IsPatternAt game.rules q.1) done
