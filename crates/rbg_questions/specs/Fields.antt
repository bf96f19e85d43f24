-- Numbers and names in the lines of answers.
use Rattle.std.specs.Prelude.{ℕ, List, ◌++◌, codes, decimal}
use Rattle.std.specs.List.{flat_map}

-- each number, or each name, with a space before it
abbrev pub numbers_text : List ℕ → List ℕ
numbers_text numbers = flat_map (λ number. codes " " ++ decimal number) numbers

abbrev pub names_text : List (List ℕ) → List ℕ
names_text listed = flat_map (λ name. codes " " ++ name) listed
