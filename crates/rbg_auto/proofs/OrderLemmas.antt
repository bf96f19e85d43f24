-- Lists in increasing order, and their members.
use Rattle.rbg_base.proofs.Common.{ℕ, zero, suc, ◌+◌, ◌<◌, ◌≤◌, List, [], ◌∷◌, ◌++◌, refl, sym, subst, inl, inr, ◌⊎◌, arith, Contains, range_with_len}
use native.Mathlib.Numerals.{unary_clauses}
use Rattle.std.specs.List.Sorted.{IsStrictlyIncreasing}
use Rattle.rbg_rules.proofs.PositionLemmas.{Among, Among_left, Among_right, Among-range_with_len}
use Rattle.rbg_rules.proofs.LevelLemmas.{among_at}
use Rattle.rbg_auto.specs.internal.Orders.{Ascends}

pub Ascends_left : (xs ys : List ℕ) → Ascends (xs ++ ys) → Ascends xs
Ascends_left [] ys h = tt
Ascends_left (x ∷ xs) ys (first, h) = ((λ y k. first y (Among_left y xs ys k)), Ascends_left xs ys h)

pub Ascends_right : (xs ys : List ℕ) → Ascends (xs ++ ys) → Ascends ys
Ascends_right [] ys h = h
Ascends_right (x ∷ xs) ys (first, h) = Ascends_right xs ys h

pub Ascends_across : (xs ys : List ℕ) → Ascends (xs ++ ys) → (x y : ℕ) → Among x xs → Among y ys → x < y
Ascends_across [] ys h x y left right = absurd left
Ascends_across (z ∷ xs) ys (first, h) x y (inl e) right = subst (λ (n : ℕ). n < y) (sym e) (first y (Among_right y xs ys right))
Ascends_across (z ∷ xs) ys (first, h) x y (inr left) right = Ascends_across xs ys h x y left right

pub Ascends_apart : (xs ys : List ℕ) → Ascends (xs ++ ys) → (x : ℕ) → Among x xs → ¬ Among x ys
Ascends_apart xs ys h x left right = let less : x < x = Ascends_across xs ys h x x left right in absurd (omega (arith, less))

-- Two lists in order are in order one after the other, if each member of the first is less than each of the second.
pub Ascends_append : (xs ys : List ℕ) → Ascends xs → Ascends ys → ((x y : ℕ) → Among x xs → Among y ys → x < y) → Ascends (xs ++ ys)
Ascends_append [] ys left right across = right
Ascends_append (x ∷ xs) ys (first, left) right across = (above, Ascends_append xs ys left right (λ a b h k. across a b (inr h) k))
  where
    above : (y : ℕ) → Among y (xs ++ ys) → x < y
    above y h = elim (cases xs y h) [ inl l ↦ first y l | inr r ↦ across x y (inl refl) r ]
      where
        cases : (zs : List ℕ) (z : ℕ) → Among z (zs ++ ys) → Among z zs ⊎ Among z ys
        cases [] z k = inr k
        cases (w ∷ zs) z (inl e) = inl (inl e)
        cases (w ∷ zs) z (inr k) = elim (cases zs z k) [ inl l ↦ inl (inr l) | inr r ↦ inr r ]

pub Ascends-range_with_len : (first many : ℕ) → Ascends (range_with_len first many)
Ascends-range_with_len first zero = tt
Ascends-range_with_len first (suc many) =
    ((λ y h. let later : first + 1 ≤ y = Among-range_with_len (first + 1) many y h in omega (arith, later)), Ascends-range_with_len (first + 1) many)

-- Members by recursion and by index.
pub Contains-from_among : (xs : List ℕ) (x : ℕ) → Among x xs → Contains xs x
Contains-from_among [] x h = absurd h
Contains-from_among (y ∷ xs) x (inl e) = (0, omega arith, sym e)
Contains-from_among (y ∷ xs) x (inr h) = let (k, below, is) = Contains-from_among xs x h in (suc k, omega (arith, below), is)

pub among_from_Contains : (xs : List ℕ) (x : ℕ) → Contains xs x → Among x xs
among_from_Contains xs x (k, below, is) = among_at xs k x below is

-- The order by neighbours.
pub IsStrictlyIncreasing-from_ascends : (xs : List ℕ) → Ascends xs → IsStrictlyIncreasing xs
IsStrictlyIncreasing-from_ascends [] h k below = absurd (omega (arith, below))
IsStrictlyIncreasing-from_ascends (x ∷ []) h k below = absurd (omega (arith, below))
IsStrictlyIncreasing-from_ascends (x ∷ y ∷ xs) (first, h) zero below = first y (inl refl)
IsStrictlyIncreasing-from_ascends (x ∷ y ∷ xs) (first, h) (suc k) below =
    let later = IsStrictlyIncreasing-from_ascends (y ∷ xs) h k (omega (arith, below)) in
    simp unary_clauses (simp unary_clauses at later)
