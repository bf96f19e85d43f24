-- Tables of names, and why names are not added to a table or not found in it.
use Rattle.std.specs.Prelude.{◌≡◌, ℕ, List, Vec, Some, ◌++◌, map, take, slice_get, Contains}
use Rattle.std.specs.Global.{Global}
use Rattle.rbg_grammar.specs.Tree.{SpeltName}
use Rattle.rbg_game.specs.declared.game_error.GameError.{GameError}
use Rattle.rbg_game.specs.declared.game_error.GameError.TheVariants.{UnknownName, SameName, Memory}
use Rattle.rbg_game.specs.NameNumbers.{texts_of}
use Rattle.rbg_game.specs.RuleFaults.{HasUnknown}

-- the bytes of each name
abbrev pub bytes_of : List (Vec ℕ Global) → List (List ℕ)
bytes_of names = map (λ name. name.items) names

-- What is wrong with names that are looked up among those that are known.
pub data HasLookUpFault (known : List (List ℕ)) (names : List SpeltName) : GameError → Type 0 where
  not_there : {at : ℕ}
      → HasUnknown known names at
      → HasLookUpFault known names (UnknownName at)
  no_memory :
      HasLookUpFault known names Memory

-- A name of the list is at this offset, and the same name is before it, in the list or among the earlier texts.
pub record OccursAfter (earlier : List (List ℕ)) (names : List SpeltName) (at : ℕ) : Type 0 where
  pub k : ℕ
  pub name : SpeltName
  pub stands : slice_get names k ≡ Some name
  pub again : Contains (earlier ++ texts_of (take k names)) name.text
  pub place : name.at ≡ at

-- What is wrong with names that are added after the earlier ones.
pub data HasNameFault (earlier : List (List ℕ)) (names : List SpeltName) : GameError → Type 0 where
  same_name : {at : ℕ}
      → OccursAfter earlier names at
      → HasNameFault earlier names (SameName at)
  no_memory :
      HasNameFault earlier names Memory
