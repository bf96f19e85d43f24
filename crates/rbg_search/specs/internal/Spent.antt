-- How many pairs a search has taken at most.
use Rattle.std.specs.Prelude.{◌≡◌, ◌≢◌, ℕ, ◌+◌, ◌*◌, ◌≤◌, List, length, AllPairs}
use Rattle.rbg_rules.specs.Meaning.{AbstractGame}
use Rattle.rbg_search.specs.Taken.{most_candidates}

-- No more pairs were taken than so many flat parts have.
pub record IsSpent (game : AbstractGame) (opened taken : ℕ) : Type 0 where
  pub few : taken ≤ opened * most_candidates game

-- .. and one of them was opened and is not counted yet.
pub record IsSpentButOne (game : AbstractGame) (opened taken : ℕ) : Type 0 where
  pub few : taken + most_candidates game ≤ opened * most_candidates game

-- The count went up by a number of which something is so, and by no more than a flat part has pairs.
pub record CountsPart (game : AbstractGame) (Has : ℕ → Type 0) (old new : ℕ) : Type 0 where
  pub many : ℕ
  pub has : Has many
  pub sum : new ≡ old + many
  pub few : many ≤ most_candidates game

-- The pairs differ, and there are so many.
pub record AreMany (pairs : List (ℕ × ℕ)) (many : ℕ) : Type 0 where
  pub different : AllPairs (λ a b. a ≢ b) pairs
  pub count : many ≡ length pairs
