-- The names of a game's things.
use Rattle.std.specs.Prelude.{◌≡◌, ℕ, List, Some, slice_get, All, IsTrue}
use Rattle.rbg_base.specs.Names.{is_name}

-- No name is twice in the list.
pub record AreDifferentNames (list : List (List ℕ)) : Type 0 where
  pub one_number :
      (i j : ℕ) (name : List ℕ) →
      slice_get list i ≡ Some name →
      slice_get list j ≡ Some name →
      i ≡ j

-- Each name is one of the language.
abbrev pub AreNames : List (List ℕ) → Type 0
AreNames = All (λ name. IsTrue (is_name name))

-- Names of the language, and no name twice.
pub record AreLawfulNames (list : List (List ℕ)) : Type 0 where
  pub names : AreNames list
  pub differ : AreDifferentNames list
