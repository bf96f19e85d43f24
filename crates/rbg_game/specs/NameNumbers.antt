-- Names and their numbers.
use Rattle.std.specs.Prelude.{◌≡◌, ℕ, List, Some, map, slice_get}
use Rattle.rbg_grammar.specs.Tree.{SpeltName}
use Rattle.rbg_rules.specs.Meaning.{AreDifferentNames}

-- the names of things, each list in order of the numbers
pub record Names : Type 0 where
  pub players : List (List ℕ)
  pub variables : List (List ℕ)
  pub pieces : List (List ℕ)
  pub directions : List (List ℕ)

-- n is the number of the name in a list of names
abbrev pub IsNumberOf : List (List ℕ) → SpeltName → ℕ → Type 0
IsNumberOf list name n = slice_get list n ≡ Some name.text

-- the texts of names
abbrev pub texts_of : List SpeltName → List (List ℕ)
texts_of names = map (λ name. name.text) names

-- In each of the lists of names all differ.
pub record HasDifferentNames (names : Names) : Type 0 where
  pub players : AreDifferentNames names.players
  pub variables : AreDifferentNames names.variables
  pub pieces : AreDifferentNames names.pieces
  pub directions : AreDifferentNames names.directions
