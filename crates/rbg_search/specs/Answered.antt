-- What a search says of a question that it was asked, whether it answered or not.
use Rattle.std.specs.Prelude.{◌≡◌, ℕ, ◌<◌, ◌≤◌, List, length, All, Bool, Result, Err, IsOk}
use Rattle.rbg_rules.specs.Meaning.{Start, Question, reach, IsDeep, IsForcedDeep}
use Rattle.rbg_state.specs.History.{History}
use Rattle.rbg_search.specs.Flat.{IsFlatPart}
use Rattle.rbg_search.specs.Start.{IsPositionOf}
use Rattle.rbg_search.specs.Counting.{CountsOpenings, IsOverBudget}
use Rattle.rbg_search.specs.Forced.{CountsForced, CountsAllForced}
use Rattle.rbg_search.specs.Searching.{Searching}
use Rattle.rbg_search.specs.Taken.{CountsTaken}
use Rattle.rbg_search.specs.declared.over.Over.{Over}
use Rattle.rbg_search.specs.declared.over.Over.TheVariants.{Deep, Memory, Wide}

-- The question was asked from a semi-state and f. The search was h and is k, the semi-state was s and is l.
--   kept, given_back, room: only the counts are new, and the semi-state has as much room at least
--   counted, taken: the openings and the pairs were counted
--   deep, wide: where it was given up as too deep or too wide, it is
--   all_forced, not_deep: where it was answered, the forced openings are counted, and none is too deep
pub record IsAnswered {X : Type 0}
    (h k : Searching) (s l : History) (question : Question) (f : Start) (result : Result X Over)
    : Type 0
  where
    pub kept : k ≡ record h { opened = k.opened; taken = k.taken }
    pub given_back : l ≡ record s { room = l.room }
    pub room : s.room ≤ l.room
    pub counted : CountsOpenings h.game question s.state f h.opened k.opened
    pub deep : result ≡ Err Deep → IsDeep h.game question s.state f h.modifiers
    pub wide : result ≡ Err Wide → IsOverBudget h.game question s.state f h.opened h.openings
    pub all_forced : IsOk result → (cut : Bool) → CountsAllForced h.game cut question s.state f h.opened k.opened
    pub not_deep : IsOk result → (cut : Bool) → ¬ IsForcedDeep h.game cut question s.state f h.modifiers
    pub taken :
        CountsTaken h.game question s.state f h.opened k.opened h.taken k.taken (IsOk result) (¬ (result ≡ Err Memory))

-- What comes next from a semi-state and f was found whole, in these pairs; and `ends` tells whether a word may end.
--   enough: there is room for what a caller does next
--   reached, within: the pairs are the modifiers that come next, each a vertex and a position of the game
--   forced: what is forced was taken up, with as many modifiers left as one likes
pub record HasReached
    (h k : Searching) (s l : History) (f : Start) (pairs : List (ℕ × ℕ)) (ends : Bool)
    : Type 0
  where
    pub enough : 2 ≤ l.room
    pub reached : IsFlatPart h.game s.state f pairs ends
    pub within : All (λ pair. (pair.0 < length h.game.board.first) × IsPositionOf h.game.rules pair.1) pairs
    pub forced :
        (cut : Bool) (left : ℕ) → CountsForced h.game cut reach s.state f h.opened k.opened left h.modifiers
