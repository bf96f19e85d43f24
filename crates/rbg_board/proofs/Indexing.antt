-- The place of each name, in an index that is built name by name.
use Rattle.rbg_base.proofs.Common.{◌≡◌, ℕ, ◌+◌, ◌<◌, List, Option, Some, None, is_some, true, false, length, get_or, refl, sym, ap, ◌∙◌, inl, inr, arith, cases_lt, cases_eq, same_Some}
use Rattle.rbg_board.proofs.Common.{HasTwice, AreDifferent, IsIndex}

-- what is some has a value
pub value_of_some : (o : Option ℕ) → true ≡ is_some o → (x : ℕ) × (o ≡ Some x)
value_of_some None some = absurd cc
value_of_some (Some x) some = (x, refl)

pub none_of_not_some : (o : Option ℕ) → false ≡ is_some o → o ≡ None
none_of_not_some None none = refl
none_of_not_some (Some x) none = absurd cc

-- the index has the first names, each at its place, and no other name
pub record IndexesBelow (names : List ℕ) (index : ℕ → Option ℕ) (count : ℕ) : Type 0 where
  pub place_of_name : (k : ℕ) → k < count → index (get_or names k 0) ≡ Some k
  pub name_of_place : (n k : ℕ) → index n ≡ Some k → (k < count) × (get_or names k 0 ≡ n)

-- a name that the index has already is written twice
pub twice : (names : List ℕ) (index : ℕ → Option ℕ) (v k : ℕ) → IndexesBelow names index v → v < length names → index (get_or names v 0) ≡ Some k → HasTwice names
twice names index v k below within found =
    let earlier = below.name_of_place (get_or names v 0) k found in
    record { earlier = k; later = v; apart = earlier.0; within = within; same = earlier.1 }

-- one more name, that the index does not have yet
pub index_more : (names : List ℕ) (old new : ℕ → Option ℕ) (v : ℕ) → IndexesBelow names old v → old (get_or names v 0) ≡ None → new (get_or names v 0) ≡ Some v
    → ((q : ℕ) → (get_or names v 0 ≡ q → ⊥) → new q ≡ old q) → IndexesBelow names new (v + 1)
index_more names old new v below absent here others = record {
  place_of_name = λ k within. elim (cases_lt k v) [
    | inl earlier ↦
        let place = below.place_of_name k earlier in
        others (get_or names k 0) (λ same. let none = sym (ap old same) ∙ absent in cc) ∙ place
    | inr last ↦ let same : k ≡ v = omega arith in ap (λ m. new (get_or names m 0)) same ∙ here ∙ ap Some (sym same)
  ];
  name_of_place = λ n k found. elim (cases_eq (get_or names v 0) n) [
    | inl same ↦
        let place : v ≡ k = same_Some v k (sym here ∙ ap new same ∙ found) in
        (omega arith, ap (λ m. get_or names m 0) (sym place) ∙ same)
    | inr apart ↦ let earlier = below.name_of_place n k (sym (others n apart) ∙ found) in (omega (arith, earlier.0), earlier.1)
  ];
}

-- an index of all the names
pub index_all : (names : List ℕ) (index : ℕ → Option ℕ) (v : ℕ) → IndexesBelow names index v → v ≡ length names → IsIndex names index
index_all names index v below all = record {
  place_of_name = λ k within. below.place_of_name k (omega arith);
  name_of_place = λ n k found. let place = below.name_of_place n k found in (omega (arith, place.0), place.1);
}

-- names that have an index differ
pub index_differ : (names : List ℕ) (index : ℕ → Option ℕ) → IsIndex names index → AreDifferent names
unfolding AreDifferent
index_differ names index is_index i j before within same =
    let place : i ≡ j = same_Some i j (sym (is_index.place_of_name i (omega arith)) ∙ ap index same ∙ is_index.place_of_name j within) in
    omega arith
