-- What a workspace counts of a question.
use Rattle.std.specs.Prelude.{◌≡◌, ℕ, ◌+◌, ◌-◌, ◌^◌, min, true, Result, OnOk, OnErr}
use Rattle.rbg_rules.specs.Meaning.{AbstractGame, AbstractPlace, point_of, Question}
use Rattle.rbg_search.specs.Counting.{CountsOpenings}
use Rattle.rbg_search.specs.Forced.{CountsAllForced}
use Rattle.rbg_search.specs.Searching.{Tally}
use Rattle.rbg_search.specs.Taken.{CountsPairs}
use Rattle.rbg_search.specs.declared.over.Over.{Over}

-- Both counts grew by those of a search that began at 0 and answered the question at the place; a count stays at the
-- greatest number of 64 bits. The openings are different ones of the question, no fewer than are forced (of a list of
-- moves those that are forced where it is cut), and the pairs are those of as many flat parts of it.
pub record IsTallied
    (game : AbstractGame) (question : Question) (place : AbstractPlace) (old new : Tally)
    : Type 0
  where
    pub opened : ℕ
    pub taken : ℕ
    pub counted : CountsOpenings game question place.state (point_of place.last) 0 opened
    pub forced : CountsAllForced game true question place.state (point_of place.last) 0 opened
    pub paired : CountsPairs game question place.state (point_of place.last) 0 opened 0 taken (Unit {0})
    pub openings : new.openings ≡ min (old.openings + opened) (2 ^ 64 - 1)
    pub pairs : new.pairs ≡ min (old.pairs + taken) (2 ^ 64 - 1)

-- The counts grew by those of the question where it was answered, and stayed where it was not.
pub record Tallies {X : Type 0}
    (game : AbstractGame) (question : Question) (place : AbstractPlace) (old new : Tally) (result : Result X Over)
    : Type 0
  where
    pub answered : OnOk result (IsTallied game question place old new)
    pub unanswered : OnErr result (new ≡ old)
