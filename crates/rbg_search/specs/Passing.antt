-- How a question goes on after a modifier, and what it counts while the modifiers that come next are taken in turn.
use Rattle.std.specs.Prelude.{◌≡◌, ◌≢◌, ℕ, ◌+◌, List, [], ◌∷◌, ◌++◌, length, All, AllPairs, Contains}
use Rattle.rbg_rules.specs.Meaning.{IsSwitchAt, Start, AbstractGame, AbstractState, Applies, Question, try_move, find_move, list_moves, pattern, Item, modifier_at, pattern_at, items_of, AnswersAfter, Opening, IsDeep}
use Rattle.rbg_search.specs.Flat.{IsNext}

-- The question from s and f asks the second one after the modifier p at vertex v: `try_move` follows its own pairs,
-- and `find_move` and `pattern` go on where there is no answer before it.
pub data Passes (game : AbstractGame) (s : AbstractState) (f : Start) (v p : ℕ) : Question → Question → Type 0 where
  trying : {qs : List (ℕ × ℕ)} → Passes game s f v p (try_move ((v, p) ∷ qs)) (try_move qs)
  finding : ¬ AnswersAfter game find_move s f [] → Passes game s f v p find_move find_move
  listing : Passes game s f v p list_moves list_moves
  asking : ¬ AnswersAfter game pattern s f [] → Passes game s f v p pattern pattern

-- The question goes on after the modifier p at vertex v, which is no switch and leads to the semi-state `later`, by
-- the second question.
pub record GoesOn
    (game : AbstractGame) (question : Question) (s : AbstractState) (f : Start) (v p : ℕ)
    (question' : Question) (later : AbstractState)
    : Type 0
  where
    pub next : IsNext game s f v p
    pub applies : Applies game p (record s { vertex = v }) later
    pub plain : ¬ IsSwitchAt game.rules p
    pub passes : Passes game s f v p question question'

-- Where the list begins with a modifier, it is one of those that are done.
abbrev pub BeginsAmong : (done : List (ℕ × ℕ)) → List Item → Type 0
BeginsAmong done [] = Unit {0}
BeginsAmong done (modifier_at v p ∷ more) = Contains done (v, p)
BeginsAmong done (pattern_at v p ∷ more) = Unit {0}

-- The count grew from old to new by different openings of the question, each of which begins so by the pairs that are
-- done.
pub record CountsBeginning
    (Begins : List (ℕ × ℕ) → List Item → Type 0) (game : AbstractGame) (question : Question) (s : AbstractState)
    (f : Start) (done : List (ℕ × ℕ)) (old new : ℕ)
    : Type 0
  where
    pub openings : List (List Item)
    pub different : AllPairs (λ o o'. o ≢ o') openings
    pub opened : All (Opening game question s f) openings
    pub begin : All (Begins done) openings
    pub sum : new ≡ old + length openings

-- .. none after a modifier that isn't done.
abbrev pub CountsUpTo :
    AbstractGame → Question → AbstractState → Start → (done : List (ℕ × ℕ)) → (old new : ℕ) → Type 0
CountsUpTo game question s f done old new = CountsBeginning BeginsAmong game question s f done old new

-- An opening begins with this number of modifiers in a row.
pub record HasRow
    (game : AbstractGame) (question : Question) (s : AbstractState) (f : Start) (modifiers : ℕ)
    : Type 0
  where
    pub row : List (ℕ × ℕ)
    pub later : List Item
    pub opened : Opening game question s f (items_of row ++ later)
    pub count : length row ≡ modifiers

-- The question is too deep: an opening begins with `left` modifiers in a row, or has `most` of them in a row.
pub data IsTooDeep
    (game : AbstractGame) (question : Question) (s : AbstractState) (f : Start) (left most : ℕ)
    : Type 0
  where
    from_here : HasRow game question s f left → IsTooDeep game question s f left most
    somewhere : IsDeep game question s f most → IsTooDeep game question s f left most
