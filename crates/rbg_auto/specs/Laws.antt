-- Laws that tie the steps to words. The module `laws` proves each.
use Rattle.std.specs.Prelude.{ℕ, List, [], ◌∷◌, ◌↔◌}
use Rattle.rbg_rules.specs.Meaning.{Expression, IsNumbered, Level, WordOf, Start, beginning, after, Follows, Ends}

-- Each position comes directly after the one before, the first one after i.
abbrev pub IsChain : Expression → ℕ → List ℕ → Type 0
IsChain rules i [] = Unit {0}
IsChain rules i (j ∷ later) = Follows rules (after i) (j ∷ []) × IsChain rules j later

-- Words may end at the last position of the list, or at i if the list is empty.
abbrev pub EndsAtLast : Expression → ℕ → List ℕ → Type 0
EndsAtLast rules i [] = Ends rules (after i) []
EndsAtLast rules i (j ∷ later) = EndsAtLast rules j later

-- A non-empty list is a word of a level exactly if words of the level begin with its first position, each further
-- position comes directly after the one before, and words may end at its last.
abbrev pub NeighbourLaw : Type 0
NeighbourLaw =
    (rules : Expression) → IsNumbered rules → (level : Level) (j : ℕ) (later : List ℕ) →
    WordOf rules level (j ∷ later) ↔
    (Follows rules (beginning level) (j ∷ []) × IsChain rules j later × EndsAtLast rules j later)

-- A non-empty list follows from a place exactly if its first position does and the others are a chain.
abbrev pub ChainLaw : Type 0
ChainLaw =
    (rules : Expression) → IsNumbered rules → (f : Start) (j : ℕ) (later : List ℕ) →
    Follows rules f (j ∷ later) ↔ (Follows rules f (j ∷ []) × IsChain rules j later)
