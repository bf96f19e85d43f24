-- Lists of names: the empty list, and a list with one more name at its front.
use Rattle.rbg_base.proofs.Common.{◌≡◌, ℕ, zero, suc, List, [], ◌∷◌, sym, ap, ◌∙◌, Some, slice_get, IsTrue, All-cons, All-nil}
use Rattle.rbg_base.specs.Names.{is_name}
use Rattle.rbg_rules.specs.LawfulNames.{AreDifferentNames, AreLawfulNames}

none_differ : AreDifferentNames []
none_differ = record { one_number = λ i j name at at'. absurd (cc at) }

one_more_differs : (name : List ℕ) (names : List (List ℕ)) → ((k : ℕ) → ¬ (slice_get names k ≡ Some name)) → AreDifferentNames names → AreDifferentNames (name ∷ names)
one_more_differs name names new differ = record { one_number = one }
  where
    one : (i j : ℕ) (found : List ℕ) → slice_get (name ∷ names) i ≡ Some found → slice_get (name ∷ names) j ≡ Some found → i ≡ j
    one zero zero found at at' = λ i. zero
    one zero (suc j) found at at' = absurd (new j (at' ∙ sym at))
    one (suc i) zero found at at' = absurd (new i (at ∙ sym at'))
    one (suc i) (suc j) found at at' = ap suc (differ.one_number i j found at at')

pub no_names : AreLawfulNames []
no_names = record { names = All-nil (λ name. IsTrue (is_name name)); differ = none_differ }

pub lawful_name : (name : List ℕ) (names : List (List ℕ)) → IsTrue (is_name name) → ((k : ℕ) → ¬ (slice_get names k ≡ Some name)) → AreLawfulNames names → AreLawfulNames (name ∷ names)
lawful_name name names is new lawful = record {
  names = All-cons (λ n. IsTrue (is_name n)) name names is lawful.names;
  differ = one_more_differs name names new lawful.differ;
}
