-- What a table of names has: its names, and a map with the number of each.
use Rattle.std.specs.Prelude.{ℕ, List, Vec, Option, Some, slice_get, ◌≡◌, Contains, MatchOption}
use Rattle.std.specs.BTreeMap.{BTreeMap, get_by}
use Rattle.std.specs.Cmp.Lexicographic.{slice_cmp}
use Rattle.std.specs.Global.{Global}
use Rattle.std.specs.Ordering.{nat_cmp}
use Rattle.rbg_rules.specs.Meaning.{AreLawfulNames}

-- the number that the map has for a text
abbrev pub number_for : BTreeMap (Vec ℕ Global) ℕ → List ℕ → Option ℕ
number_for numbers text = get_by (λ key. slice_cmp nat_cmp text key.items) numbers

-- For every text the map has its place in the list, and no number if it isn't there.
abbrev pub GivesPlaces : List (List ℕ) → BTreeMap (Vec ℕ Global) ℕ → Type 0
GivesPlaces names numbers =
    (text : List ℕ)
    → MatchOption (number_for numbers text) (¬ Contains names text) (λ n. slice_get names n ≡ Some text)

-- The names are lawful, and the map has the number of each.
pub record IsTable (names : List (List ℕ)) (numbers : BTreeMap (Vec ℕ Global) ℕ) : Type 0 where
  pub lawful : AreLawfulNames names
  pub places : GivesPlaces names numbers
