-- Lists of positions in increasing order, and the union of two of them.
use Rattle.std.specs.Prelude.{ℕ, ◌<◌, ◌⊎◌, ◌↔◌, List, [], ◌∷◌}
use Rattle.rbg_rules.proofs.PositionLemmas.{Among}

-- Each member is less than all that come after it.
abbrev pub Ascends : List ℕ → Type 0
Ascends [] = Unit {0}
Ascends (x ∷ xs) = ((y : ℕ) → Among y xs → x < y) × Ascends xs

-- The list is in increasing order and has the members of both.
pub record IsUnion (a b all : List ℕ) : Type 0 where
  pub order : Ascends all
  pub exact : (j : ℕ) → Among j all ↔ (Among j a ⊎ Among j b)

-- The list is the union of both, if they are in increasing order.
abbrev pub Joins : List ℕ → List ℕ → List ℕ → Type 0
Joins a b all = Ascends a → Ascends b → IsUnion a b all
