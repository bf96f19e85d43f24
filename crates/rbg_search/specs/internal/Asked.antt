-- What is counted while the patterns of a flat part are asked, and after its modifiers.
use Rattle.std.specs.Prelude.{◌≡◌, ◌≢◌, ℕ, ◌≤◌, List, [], ◌∷◌, All, AllPairs, Contains, Result, Err, IsOk}
use Rattle.rbg_rules.specs.Meaning.{Expression, IsLevel, inside, Start, AbstractGame, AbstractState, IsGame, Question, reach, Item, modifier_at, pattern_at}
use Rattle.rbg_state.specs.History.{History}
use Rattle.rbg_flat.specs.Candidates.{MayEnd}
use Rattle.rbg_search.specs.Flat.{IsNext}
use Rattle.rbg_search.specs.Counting.{CountsOpenings, IsOverBudget}
use Rattle.rbg_search.specs.Passing.{CountsBeginning, IsTooDeep}
use Rattle.rbg_search.specs.Searching.{Searching}
use Rattle.rbg_search.specs.Taken.{CountsTaken}
use Rattle.rbg_search.specs.declared.over.Over.{Over}
use Rattle.rbg_search.specs.declared.over.Over.TheVariants.{Deep, Memory, Wide}
use Rattle.rbg_search.specs.Nesting.{StandsIn}

-- One stands in the inside of a pattern.
pub record StandsInPattern (rules : Expression) (f : Start) : Type 0 where
  pub pattern : ℕ
  pub expression : Expression
  pub is_level : IsLevel rules (inside pattern) expression
  pub stands : StandsIn f (inside pattern) expression

-- Where the list begins with a pattern, it is one of those that are done.
abbrev pub BeginsAsked : (done : List (ℕ × ℕ)) → List Item → Type 0
BeginsAsked done [] = Unit {0}
BeginsAsked done (modifier_at v p ∷ more) = Unit {0}
BeginsAsked done (pattern_at v p ∷ more) = Contains done (v, p)

-- The count grew from old to new by different openings of `reach`, none in a pattern that isn't done.
abbrev pub CountsAsked : AbstractGame → AbstractState → Start → (done : List (ℕ × ℕ)) → (old new : ℕ) → Type 0
CountsAsked game s f done old new = CountsBeginning BeginsAsked game reach s f done old new

-- The pairs are modifiers that come next in a pattern of a lawful game, each once, and no word may end before them.
pub record GoesAfter (game : AbstractGame) (s : AbstractState) (f : Start) (pairs : List (ℕ × ℕ)) : Type 0 where
  pub lawful : IsGame game
  pub inside : StandsInPattern game.rules f
  pub no_end : ¬ MayEnd game s f
  pub next : All (λ q. IsNext game s f q.0 q.1) pairs
  pub different : AllPairs (λ a b. a ≢ b) pairs

-- A question from s and f was asked, and the count grew from old to new: by different openings of the question; where
-- it was given up as deep or wide, it is, by what was left of modifiers in a row and by the budget.
pub record IsCounted
    (game : AbstractGame) (question : Question) (s : AbstractState) (f : Start)
    (old new left openings modifiers : ℕ) (Deep Wide : Type 0)
    : Type 0
  where
    pub counted : CountsOpenings game question s f old new
    pub deep : Deep → IsTooDeep game question s f left modifiers
    pub wide : Wide → IsOverBudget game question s f old openings

-- The same of a whole search, which was h and is k, over a semi-state that was s and is l; and all that was opened is
-- counted in pairs too. The question is asked from the semi-state `here`.
pub record IsAsked {X : Type 0}
    (h k : Searching) (s l : History) (question : Question) (here : AbstractState) (f : Start) (left : ℕ)
    (result : Result X Over)
    : Type 0
  where
    pub kept : k ≡ record h { opened = k.opened; taken = k.taken }
    pub given_back : l ≡ record s { room = l.room }
    pub room : s.room ≤ l.room
    pub counts :
        IsCounted h.game question here f h.opened k.opened left h.openings h.modifiers (result ≡ Err Deep)
        (result ≡ Err Wide)
    pub taken :
        CountsTaken h.game question here f h.opened k.opened h.taken k.taken (IsOk result) (¬ (result ≡ Err Memory))
