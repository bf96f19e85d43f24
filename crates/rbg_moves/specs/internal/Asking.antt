-- What a search takes up for a question about moves.
use Rattle.std.specs.Prelude.{ℕ, zero, suc, Bool, true, false}
use Rattle.rbg_rules.specs.Meaning.{most_openings, most_modifiers, AbstractGame, AbstractState, Start, Question, find_move, list_moves}
use Rattle.rbg_search.specs.Counting.{CountsOpenings, IsOverBudget}
use Rattle.rbg_search.specs.Forced.{CountsForced}
use Rattle.rbg_search.specs.Passing.{IsTooDeep}
use Rattle.rbg_search.specs.Searching.{Searching}
use Rattle.rbg_search.specs.Taken.{CountsPairs}

-- A search in the game that was begun for one question at a place: it may take up what a question may, and has taken up
-- nothing.
abbrev pub begun_in : AbstractGame → Searching
begun_in game = record { game = game; openings = most_openings; modifiers = most_modifiers; opened = 0; taken = 0 }

-- The question was answered: the openings and pairs that were counted meanwhile are its own, and all openings that are
-- forced were taken up. Each of these has few modifiers in a row, fewer than `left` at its beginning.
pub record CountsAnswer
    (old new : Searching) (cut : Bool) (question : Question) (s : AbstractState) (f : Start) (left : ℕ)
    : Type 0
  where
    pub counted : CountsOpenings old.game question s f old.opened new.opened
    pub paired : CountsPairs old.game question s f old.opened new.opened old.taken new.taken (Unit {0})
    pub forced : CountsForced old.game cut question s f old.opened new.opened left old.modifiers

-- Where the question was given up as deep or wide, it is: an opening begins with `left` modifiers in a row or has too
-- many in a row, or there are more openings than may be taken up.
pub record IsGivenUp
    (old : Searching) (question : Question) (s : AbstractState) (f : Start) (left : ℕ) (Deep Wide : Type 0)
    : Type 0
  where
    pub deep : Deep → IsTooDeep old.game question s f left old.modifiers
    pub wide : Wide → IsOverBudget old.game question s f old.opened old.openings

-- The question of a walk that has room for so many moves: where it has none, it ends with the first move.
abbrev pub question_of : (max : ℕ) → Question
question_of zero = find_move
question_of (suc n) = list_moves

-- Whether the answer to that question is cut: a list is where the walk ended early; some move never is, since no more is
-- asked for.
abbrev pub is_cut : (ended : Bool) → (max : ℕ) → Bool
is_cut false max = false
is_cut true zero = false
is_cut true (suc n) = true
