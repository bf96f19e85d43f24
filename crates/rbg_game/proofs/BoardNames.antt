-- Names by their numbers, in rows of cells and in lists.
use Rattle.rbg_base.proofs.Common.{◌≡◌, ℕ, ◌<◌, inl, inr, List, [], ◌∷◌, length, flat_map, Contains, All, arith, AllZip, concat, All-nil, All-cons, All-append, Contains-append_cases, slice_get_within}
use Rattle.rbg_grammar.specs.Tree.{SpeltName}
use Rattle.rbg_rules.specs.Meaning.{AreDifferentNames}
use Rattle.rbg_game.specs.NameNumbers.{IsNumberOf}
use Rattle.rbg_game.proofs.Lists.{AllZip-once}
use Rattle.rbg_game.proofs.RuleFaults.{unnumbered}

pub unnumbered_rows : (known : List (List ℕ)) (rows : List (List SpeltName)) (name : SpeltName) (numbers : List (List ℕ)) → Contains (flat_map (λ row. row) rows) name → ¬ Contains known name.text → ¬ AllZip (AllZip (IsNumberOf known)) rows numbers
unnumbered_rows known [] name numbers stands unknown all = absurd (omega (arith, stands.1))
unnumbered_rows known (row ∷ rows) name [] stands unknown all = absurd all
unnumbered_rows known (row ∷ rows) name (ns ∷ numbers) stands unknown all = elim (Contains-append_cases row (flat_map (λ row. row) rows) name stands) [
  | inl here ↦ unnumbered known row name ns here unknown all.0
  | inr later ↦ unnumbered_rows known rows name numbers later unknown all.1
]

-- different names give each cell one number
pub rows_once : (known : List (List ℕ)) → AreDifferentNames known → (rows : List (List SpeltName)) (a b : List (List ℕ)) → AllZip (AllZip (IsNumberOf known)) rows a → AllZip (AllZip (IsNumberOf known)) rows b → a ≡ b
rows_once known differ =
    AllZip-once (AllZip (IsNumberOf known)) (AllZip (IsNumberOf known)) (AllZip-once (IsNumberOf known) (IsNumberOf known) (λ name m n is_m is_n. differ.one_number m n name.text is_m is_n))

-- numbers of names are below the number of names
numbers_below : (known : List (List ℕ)) (names : List SpeltName) (numbers : List ℕ) → AllZip (IsNumberOf known) names numbers → All (λ n. n < length known) numbers
numbers_below known [] [] all = All-nil (λ n. n < length known)
numbers_below known [] (n ∷ ns) all = absurd all
numbers_below known (name ∷ names) [] all = absurd all
numbers_below known (name ∷ names) (n ∷ ns) all = All-cons (λ m. m < length known) n ns (slice_get_within known n name.text all.0) (numbers_below known names ns all.1)

pub rows_below : (known : List (List ℕ)) (rows : List (List SpeltName)) (numbers : List (List ℕ)) → AllZip (AllZip (IsNumberOf known)) rows numbers → All (λ n. n < length known) (concat numbers)
rows_below known [] [] all = All-nil (λ n. n < length known)
rows_below known [] (ns ∷ numbers) all = absurd all
rows_below known (row ∷ rows) [] all = absurd all
rows_below known (row ∷ rows) (ns ∷ numbers) all = All-append (λ n. n < length known) ns (concat numbers) (numbers_below known row ns all.0) (rows_below known rows numbers all.1)
