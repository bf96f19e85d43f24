-- What stands in a list of which one element is replaced.
use Rattle.rbg_base.proofs.Common.{◌≡◌, ◌≢◌, ℕ, zero, suc, ◌<◌, List, [], ◌∷◌, length, set, refl, ap, sym, ◌∙◌, subst, arith, Some, inl, inr, slice_get, ◌⊎◌, cases_lt, none-some}

pub set_here : {X : Type 0} (xs : List X) (i : ℕ) (y : X) → i < length xs → slice_get (set xs i y) i ≡ Some y
set_here [] i y within = absurd (omega arith)
set_here (x ∷ xs) zero y within = refl
set_here (x ∷ xs) (suc i) y within = set_here xs i y (omega arith)

pub set_there : {X : Type 0} (xs : List X) (i j : ℕ) (y : X) → j ≢ i → slice_get (set xs i y) j ≡ slice_get xs j
set_there [] i j y other = refl
set_there (x ∷ xs) zero zero y other = absurd (other refl)
set_there (x ∷ xs) zero (suc j) y other = refl
set_there (x ∷ xs) (suc i) zero y other = refl
set_there (x ∷ xs) (suc i) (suc j) y other = set_there xs i j y (λ same. other (ap suc same))

pub there_within : {X : Type 0} (xs : List X) (i : ℕ) (x : X) → slice_get xs i ≡ Some x → i < length xs
there_within [] i x there = absurd (none-some x there)
there_within (y ∷ xs) zero x there = omega arith
there_within (y ∷ xs) (suc i) x there = omega (arith, there_within xs i x there)

pub same_or_other : (i j : ℕ) → (i ≡ j) ⊎ (i ≢ j)
same_or_other i j = elim (cases_lt i j) [
  | inl below ↦ inr (λ same. absurd (omega arith))
  | inr above ↦ elim (cases_lt j i) [
    | inl below ↦ inr (λ same. absurd (omega arith))
    | inr equal ↦ inl (omega arith)
  ]
]

-- what stands at an index, where one element was replaced
pub set_cases : {X : Type 0} (xs : List X) (i j : ℕ) (y x : X) → slice_get (set xs i y) j ≡ Some x → ((j ≡ i) × (x ≡ y)) ⊎ ((j ≢ i) × (slice_get xs j ≡ Some x))
set_cases xs i j y x there = elim (same_or_other j i) [
  | inl same ↦ (let within : i < length xs = subst (λ n. n < length xs) same (set_within xs i j y x there) in
      let found : Some y ≡ Some x = sym (set_here xs i y within) ∙ subst (λ n. slice_get (set xs i y) n ≡ Some x) same there in
      inl (same, cc))
  | inr other ↦ inr (other, sym (set_there xs i j y other) ∙ there)
]
  where
    set_within : {X : Type 0} (xs : List X) (i j : ℕ) (y x : X) → slice_get (set xs i y) j ≡ Some x → j < length xs
    set_within [] i j y x there = absurd (none-some x there)
    set_within (z ∷ xs) zero zero y x there = omega arith
    set_within (z ∷ xs) zero (suc j) y x there = omega (arith, there_within xs j x there)
    set_within (z ∷ xs) (suc i) zero y x there = omega arith
    set_within (z ∷ xs) (suc i) (suc j) y x there = omega (arith, set_within xs i j y x there)
