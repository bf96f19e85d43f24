-- Names in order of first use are determined.
use Rattle.std.proofs.Common.{◌≡◌, ℕ, zero, suc, ◌<◌, ◌⊎◌, inl, inr, List, [], ◌∷◌, ◌++◌, Some, slice_get, Contains, refl, sym, ◌∙◌, subst, arith}
use Rattle.rbg_rules.specs.Meaning.{AreDifferentNames}
use Rattle.rbg_game.specs.Descriptions.{IsOrderOfFirstUse}
use Rattle.rbg_base.proofs.CallerLemmas.{Contains-from_get, get_from-Contains}

-- the first of two lists in one has no name twice, if the whole has none
pub front_differs : (xs ys : List (List ℕ)) → AreDifferentNames (xs ++ ys) → AreDifferentNames xs
front_differs xs ys differ = record { one_number = λ i j name at_i at_j. differ.one_number i j name (in_front xs i name at_i) (in_front xs j name at_j) }
  where
    in_front : (zs : List (List ℕ)) (i : ℕ) (name : List ℕ) → slice_get zs i ≡ Some name → slice_get (zs ++ ys) i ≡ Some name
    in_front [] i name at = absurd (cc at)
    in_front (z ∷ zs) zero name at = at
    in_front (z ∷ zs) (suc i) name at = in_front zs i name at

-- the name is in the list
abbrev IsNameIn : List (List ℕ) → List ℕ → Type 0
IsNameIn xs x = (i : ℕ) × (slice_get xs i ≡ Some x)

-- if the later name is used at a place, the earlier one was used before
abbrev IsUsedBefore : List (List ℕ) → List ℕ → List ℕ → Type 0
IsUsedBefore used earlier later = (k : ℕ) → slice_get used k ≡ Some later → (m : ℕ) × (m < k) × (slice_get used m ≡ Some earlier)

-- the names of the list are used, each before those that follow it
record IsInOrder (used xs : List (List ℕ)) : Type 0 where
  are_used : (x : List ℕ) → IsNameIn xs x → IsNameIn used x
  in_order : (i j : ℕ) (x y : List ℕ) → slice_get xs i ≡ Some x → slice_get xs j ≡ Some y → i < j → IsUsedBefore used x y

-- of two used names only one is used before the other
not_both : (used : List (List ℕ)) (x y : List ℕ) → IsUsedBefore used x y → IsUsedBefore used y x → (most k : ℕ) → k < most → ¬ (slice_get used k ≡ Some x)
not_both used x y x_before y_before zero k below at = absurd (omega (arith, below))
not_both used x y x_before y_before (suc most) k below at =
    let (m, m_below, at_m) = y_before k at in
    let (l, l_below, at_l) = x_before m at_m in
    not_both used x y x_before y_before most l (omega (arith, below, m_below, l_below)) at_l

never_both : (used : List (List ℕ)) (x y : List ℕ) → IsUsedBefore used x y → IsUsedBefore used y x → ¬ IsNameIn used x
never_both used x y x_before y_before (k, at) = not_both used x y x_before y_before (suc k) k (omega arith) at

first_or_later : (y : List ℕ) (ys : List (List ℕ)) (x : List ℕ) → IsNameIn (y ∷ ys) x → (y ≡ x) ⊎ IsNameIn ys x
first_or_later y ys x (zero, at) = inl (cc at)
first_or_later y ys x (suc i, at) = inr (i, at)

rest_in_order : (used : List (List ℕ)) (x : List ℕ) (xs : List (List ℕ)) → IsInOrder used (x ∷ xs) → IsInOrder used xs
rest_in_order used x xs order =
    record {
      are_used = λ z (i, at). order.are_used z (suc i, at);
      in_order = λ i j y z at_i at_j below. order.in_order (suc i) (suc j) y z at_i at_j (omega (arith, below));
    }

-- the first is used before all that follow
first_before : (used : List (List ℕ)) (x : List ℕ) (xs : List (List ℕ)) (y : List ℕ) → IsInOrder used (x ∷ xs) → IsNameIn xs y → IsUsedBefore used x y
first_before used x xs y order (i, at) = order.in_order 0 (suc i) x y refl at (omega arith)

-- two lists in order with the same names have the same first
first_once : (used : List (List ℕ)) (x y : List ℕ) (xs ys : List (List ℕ)) → IsInOrder used (x ∷ xs) → IsInOrder used (y ∷ ys) → IsNameIn (y ∷ ys) x → IsNameIn (x ∷ xs) y → x ≡ y
first_once used x y xs ys left right there back = elim (first_or_later y ys x there) [
  | inl same ↦ sym same
  | inr later ↦ elim (first_or_later x xs y back) [
    | inl same ↦ same
    | inr later' ↦ absurd (never_both used x y (first_before used x xs y left later') (first_before used y ys x right later) (left.are_used x (0, refl)))
  ]
]

-- what comes after the first of one list comes after that of the other
beyond_first : (used : List (List ℕ)) (x y : List ℕ) (xs ys : List (List ℕ)) → IsInOrder used (x ∷ xs) → x ≡ y → ((z : List ℕ) → IsNameIn (x ∷ xs) z → IsNameIn (y ∷ ys) z) → (z : List ℕ) → IsNameIn xs z → IsNameIn ys z
beyond_first used x y xs ys order same there z (i, at) = elim (first_or_later y ys z (there z (suc i, at))) [
  | inl is ↦
      let before : IsUsedBefore used x x = subst (IsUsedBefore used x) (sym (same ∙ is)) (first_before used x xs z order (i, at)) in
      absurd (never_both used x x before before (order.are_used x (0, refl)))
  | inr later ↦ later
]

in_order_once : (used xs ys : List (List ℕ)) → IsInOrder used xs → IsInOrder used ys → ((z : List ℕ) → IsNameIn xs z → IsNameIn ys z) → ((z : List ℕ) → IsNameIn ys z → IsNameIn xs z) → xs ≡ ys
in_order_once used [] [] left right there back = refl
in_order_once used [] (y ∷ ys) left right there back = let (i, at) = back y (0, refl) in absurd (cc at)
in_order_once used (x ∷ xs) [] left right there back = let (i, at) = there x (0, refl) in absurd (cc at)
in_order_once used (x ∷ xs) (y ∷ ys) left right there back =
    let same : x ≡ y = first_once used x y xs ys left right (there x (0, refl)) (back y (0, refl)) in
    let rest : xs ≡ ys =
    in_order_once used xs ys (rest_in_order used x xs left) (rest_in_order used y ys right) (beyond_first used x y xs ys left same there) (beyond_first used y x ys xs right (sym same) back) in
    cc

stands : (xs : List (List ℕ)) (x : List ℕ) → Contains xs x → IsNameIn xs x
stands xs x has = get_from-Contains xs x has

contains : (xs : List (List ℕ)) (x : List ℕ) → IsNameIn xs x → Contains xs x
contains xs x (i, at) = Contains-from_get xs i x at

is_in_order : (used names : List (List ℕ)) → IsOrderOfFirstUse used names → IsInOrder used names
is_in_order used names order =
    record {
      are_used = λ x at. stands used x (order.only x (contains names x at));
      in_order = λ i j x y at_i at_j below k. order.in_order i j k x y at_i at_j below;
    }

-- At most one list has the names in order of first use.
pub first_use_once : (used a b : List (List ℕ)) → IsOrderOfFirstUse used a → IsOrderOfFirstUse used b → a ≡ b
first_use_once used a b left right =
    in_order_once used a b (is_in_order used a left) (is_in_order used b right) (λ z at. stands b z (right.all z (left.only z (contains a z at)))) (λ z at. stands a z (left.all z (right.only z (contains b z at))))
