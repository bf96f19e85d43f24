-- A search that tries modifiers in turn, whether some word runs after one of them.
use Rattle.std.specs.Prelude.{◌≡◌, ℕ, ◌≤◌, List, All, Bool, Result, Err, IsOk}
use Rattle.rbg_rules.specs.Meaning.{IsNumbered, Start, reach, pattern}
use Rattle.rbg_state.specs.History.{History}
use Rattle.rbg_search.specs.Counting.{CountsOpenings}
use Rattle.rbg_search.specs.Forced.{TakesAfter}
use Rattle.rbg_search.specs.Passing.{CountsUpTo}
use Rattle.rbg_search.specs.Searching.{Searching}
use Rattle.rbg_search.specs.Taken.{CountsPairs, CountsTaken}
use Rattle.rbg_search.specs.internal.Asked.{GoesAfter, IsCounted}
use Rattle.rbg_search.specs.internal.Beyond.{RunsAfterPair}
use Rattle.rbg_search.specs.declared.over.Over.{Over}
use Rattle.rbg_search.specs.declared.over.Over.TheVariants.{Deep, Memory, Wide}

-- A search was h and is k, and the semi-state was s and is l: only the counts are new, and there is as much room at least.
pub record Stays (h k : Searching) (s l : History) : Type 0 where
  pub kept : k ≡ record h { opened = k.opened; taken = k.taken }
  pub given_back : l ≡ record s { room = l.room }
  pub room : s.room ≤ l.room

-- A pattern's question went on after the pairs. The search was h and is k, the semi-state was s and is l; the flat part
-- from f, in which the pairs were found, was counted from a on.
pub record IsAskedAfter {X : Type 0}
    (h k : Searching) (s l : History) (pairs : List (ℕ × ℕ)) (left : ℕ) (result : Result X Over)
    : Type 0
  where
    pub stays : Stays h k s l
    pub counts :
        (f : Start) (a : ℕ) → GoesAfter h.game s.state f pairs → CountsOpenings h.game reach s.state f a h.opened →
        IsCounted h.game pattern s.state f a k.opened left h.openings h.modifiers (result ≡ Err Deep)
        (result ≡ Err Wide)
    pub taken :
        (f : Start) → GoesAfter h.game s.state f pairs →
        CountsTaken h.game pattern s.state f h.opened k.opened h.taken k.taken (IsOk result) (¬ (result ≡ Err Memory))

-- After those of the pairs that are done no word runs.
pub record TriesAfter
    (h k : Searching) (s l : History) (pairs done : List (ℕ × ℕ)) (left : ℕ)
    : Type 0
  where
    pub stays : Stays h k s l
    pub none : All (λ q. ¬ RunsAfterPair h.game s.state q.0 q.1) done
    pub counted :
        (f : Start) (a : ℕ) → GoesAfter h.game s.state f pairs → CountsOpenings h.game reach s.state f a h.opened →
        CountsUpTo h.game pattern s.state f done a k.opened
    pub grows : h.opened ≤ k.opened
    pub forced :
        (cut : Bool) → IsNumbered h.game.rules →
        TakesAfter h.game cut pattern s.state done h.opened k.opened left h.modifiers
    pub taken :
        (f : Start) → GoesAfter h.game s.state f pairs →
        CountsPairs h.game pattern s.state f h.opened k.opened h.taken k.taken (Unit {0})
