-- When the time of somebody in a hall is over.
use Rattle.std.specs.Prelude.{◌≡◌, ◌≤◌, ℕ, List, All, Any, Option, Some, None}
use Rattle.rbg_match.specs.Matches.{MatchState}
use Rattle.rbg_match.specs.Play.{due_of}
use Rattle.rbg_hall.specs.Tables.{TableState}

-- The match of a table goes on, and at this moment its mover's time is over.
pub record IsDueOf (table : TableState) (at : ℕ) : Type 0 where
  pub playing : MatchState
  pub begun : table.begun ≡ Some playing
  pub goes_on : playing.play.outcome ≡ None
  pub due : at ≡ due_of playing.config playing.play

-- no match of a table goes on whose mover's time is over before this moment; none goes on at all if there is no moment
abbrev pub IsNotBefore : Option ℕ → TableState → Type 0
IsNotBefore None table = (other : ℕ) → ¬ IsDueOf table other
IsNotBefore (Some at) table = (other : ℕ) → IsDueOf table other → at ≤ other

-- this is the moment of one of the tables, if it is one at all
abbrev pub IsOfOne : List TableState → Option ℕ → Type 0
IsOfOne tables None = Unit {0}
IsOfOne tables (Some at) = Any (λ (table : TableState). IsDueOf table at) tables

-- The first of the moments at which a mover's time is over, among the matches of these tables that go on.
pub record IsFirstDue (tables : List TableState) (first : Option ℕ) : Type 0 where
  pub of_one : IsOfOne tables first
  pub not_before : All (IsNotBefore first) tables
