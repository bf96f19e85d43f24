-- A search that finds a flat part.
use Rattle.std.specs.Prelude.{◌≡◌, ℕ, ◌+◌, ◌≤◌, List, All, Bool}
use Rattle.rbg_rules.specs.Meaning.{IsGame, Start, reach}
use Rattle.rbg_state.specs.History.{History}
use Rattle.rbg_search.specs.Answered.{HasReached}
use Rattle.rbg_search.specs.Searching.{Searching}
use Rattle.rbg_search.specs.Taken.{CountsPairs}
use Rattle.rbg_search.specs.internal.Asked.{CountsAsked}
use Rattle.rbg_search.specs.internal.Beyond.{IsReady}
use Rattle.rbg_search.specs.internal.Spent.{IsSpent}
use Rattle.rbg_search.specs.internal.Taking.{AsksForced}

-- A search finds a flat part from f: it was h, and the semi-state s, when that was begun, and now they are k and l. The
-- patterns among the pairs that are done were asked.
pub record Finds (h k : Searching) (s l : History) (f : Start) (done : List (ℕ × ℕ)) : Type 0 where
  pub kept : k ≡ record h { opened = k.opened; taken = k.taken }
  pub given_back : l ≡ record s { room = l.room }
  pub room : s.room ≤ l.room
  pub enough : 2 ≤ l.room
  pub lawful : IsGame h.game
  pub counted : CountsAsked h.game s.state f done h.opened k.opened
  pub forced : (cut : Bool) → AsksForced h.game cut s.state done h.opened k.opened h.modifiers
  pub spent : IsSpent h.game h.opened h.taken
  pub taken : CountsPairs h.game reach s.state f (h.opened + 1) k.opened h.taken k.taken (Unit {0})

-- The flat part was found whole, and after each of its modifiers `nested` patterns at most stand one inside the other.
pub record HasFound
    (h k : Searching) (s l : History) (f : Start) (nested : ℕ) (pairs : List (ℕ × ℕ)) (ends : Bool)
    : Type 0
  where
    pub lawful : IsGame h.game
    pub reaches : HasReached h k s l f pairs ends
    pub ready : All (IsReady h.game s.state nested) pairs
