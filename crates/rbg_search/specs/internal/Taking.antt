-- Which forced openings were taken up while the patterns of a flat part are asked, and after its modifiers.
use Rattle.std.specs.Prelude.{◌≡◌, ℕ, ◌+◌, ◌≤◌, List, [], ◌∷◌, length, Contains, Bool, false}
use Rattle.rbg_rules.specs.Meaning.{IsNumbered, IsPatternAt, inside, beginning, AbstractGame, AbstractState, pattern, Item, pattern_at, Forced}
use Rattle.rbg_search.specs.Forced.{HasFewInRow, TakesAfter}
use Rattle.rbg_search.specs.Closure.{at_vertex}

-- The empty list was taken up, and all that is forced in the patterns among the pairs that are done.
pub record AsksForced
    (game : AbstractGame) (cut : Bool) (s : AbstractState) (done : List (ℕ × ℕ)) (old new most : ℕ)
    : Type 0
  where
    pub openings : List (List Item)
    pub nothing : Contains openings []
    pub all :
        (v p : ℕ) (o : List Item) → Contains done (v, p) → IsPatternAt game.rules p →
        Forced game cut pattern (at_vertex s v) (beginning (inside p)) o →
        Contains openings (pattern_at v p ∷ o)
    pub fits : old + length openings ≤ new
    pub few :
        (v p : ℕ) (o : List Item) → Contains done (v, p) → IsPatternAt game.rules p →
        Forced game cut pattern (at_vertex s v) (beginning (inside p)) o →
        HasFewInRow most most o

-- The count doesn't fall, and where no word runs after the pairs, all was taken up that is forced after them.
pub record RanAfter
    (game : AbstractGame) (s : AbstractState) (pairs : List (ℕ × ℕ)) (runs : Bool) (old new left most : ℕ)
    : Type 0
  where
    pub grows : old ≤ new
    pub forced :
        (cut : Bool) → IsNumbered game.rules → runs ≡ false →
        TakesAfter game cut pattern s pairs old new left most
