-- That a search took up all that it had to: the forced openings are among those that it counted, and none is too deep.
use Rattle.std.specs.Prelude.{ℕ, ◌+◌, ◌-◌, ◌<◌, ◌≤◌, List, [], ◌∷◌, length, Contains, Bool}
use Rattle.rbg_rules.specs.Meaning.{IsSwitchAt, Start, after, AbstractGame, AbstractState, Applies, Question, Item, modifier_at, pattern_at, HasForced, Forced}

-- The list has fewer than `left` modifiers in a row at its beginning, and fewer than `most` after each pattern. (Where
-- `left` or `most` is 0 that is said of 1: no modifier is there.)
abbrev pub HasFewInRow : (left most : ℕ) → List Item → Type 0
HasFewInRow left most [] = Unit {0}
HasFewInRow left most (modifier_at v p ∷ o) = (1 < left) × HasFewInRow (left - 1) most o
HasFewInRow left most (pattern_at v p ∷ o) = HasFewInRow most most o

-- While the count of openings went from the old number to the new one, the forced openings of the question were taken
-- up: they are all in a list that is no longer than what was added, and each has few modifiers in a row.
pub record CountsForced
    (game : AbstractGame) (cut : Bool) (question : Question) (s : AbstractState) (f : Start) (old new left most : ℕ)
    : Type 0
  where
    pub openings : List (List Item)
    pub all : (o : List Item) → Forced game cut question s f o → Contains openings o
    pub fits : old + length openings ≤ new
    pub few : (o : List Item) → Forced game cut question s f o → HasFewInRow left most o

-- The count went up by at least the number of forced openings, however many of them are named.
abbrev pub CountsAllForced : AbstractGame → Bool → Question → AbstractState → Start → (old new : ℕ) → Type 0
CountsAllForced game cut question s f old new =
    (many : ℕ) → HasForced game cut question s f many → old + many ≤ new

-- All was taken up that is forced after the modifiers among these pairs, switches left out, where the question goes on
-- as this one.
pub record TakesAfter
    (game : AbstractGame) (cut : Bool) (question : Question) (s : AbstractState) (pairs : List (ℕ × ℕ))
    (old new left most : ℕ)
    : Type 0
  where
    pub openings : List (List Item)
    pub all :
        (v p : ℕ) (later : AbstractState) (o : List Item) → Contains pairs (v, p) → ¬ IsSwitchAt game.rules p →
        Applies game p (record s { vertex = v }) later →
        Forced game cut question later (after p) o →
        Contains openings (modifier_at v p ∷ o)
    pub fits : old + length openings ≤ new
    pub few :
        (v p : ℕ) (later : AbstractState) (o : List Item) → Contains pairs (v, p) → ¬ IsSwitchAt game.rules p →
        Applies game p (record s { vertex = v }) later →
        Forced game cut question later (after p) o →
        HasFewInRow left most (modifier_at v p ∷ o)
