-- How many openings a search takes up.
use Rattle.std.specs.Prelude.{◌≡◌, ℕ, ◌+◌, ◌<◌}
use Rattle.rbg_rules.specs.Meaning.{Start, AbstractGame, AbstractState, Question, HasOpenings}

-- The count of openings goes from the old number to the new one, and the question has as many different openings as
-- were added.
pub record CountsOpenings
    (game : AbstractGame) (question : Question) (s : AbstractState) (f : Start) (old new : ℕ)
    : Type 0
  where
    pub added : ℕ
    pub sum : new ≡ old + added
    pub openings : HasOpenings game question s f added

-- With the openings that were counted before, those of the question are more than the budget allows.
pub record IsOverBudget
    (game : AbstractGame) (question : Question) (s : AbstractState) (f : Start) (old most : ℕ)
    : Type 0
  where
    pub added : ℕ
    pub more : most < old + added
    pub openings : HasOpenings game question s f added
