-- Lists from which the front was taken.
use Rattle.rbg_base.proofs.Common.{◌≡◌, ◌≤◌, ◌<◌, ◌+◌, ◌-◌, ℕ, zero, suc, List, [], ◌∷◌, length, drop, refl, sym, ap, ◌∙◌, arith, add-one, Some, slice_get, drop_all, drop-nil}

drop_suc : {A : Type 0} (n : ℕ) (xs : List A) → drop (suc n) xs ≡ drop 1 (drop n xs)
drop_suc zero xs = refl
drop_suc (suc n) [] = refl
drop_suc (suc n) (x ∷ xs) = drop_suc n xs

pub drop_one_more : {A : Type 0} (n : ℕ) (xs : List A) → drop (n + 1) xs ≡ drop 1 (drop n xs)
drop_one_more n xs = rw add-one (drop_suc n xs)

pub drop_past : {A : Type 0} (n : ℕ) (xs : List A) → length xs ≤ n → drop n xs ≡ drop 1 (drop n xs)
drop_past n [] h = rw (drop-nil n) refl
drop_past zero (x ∷ xs) h = absurd (omega arith)
drop_past (suc n) (x ∷ xs) h = drop_past n xs (omega arith)

front_after : {A : Type 0} (n : ℕ) (xs : List A) (x : A) → slice_get xs n ≡ Some x → drop n xs ≡ x ∷ drop 1 (drop n xs)
front_after n [] x e = cc
front_after zero (y ∷ ys) x e = let same : y ≡ x = cc in ap (λ z. z ∷ ys) same
front_after (suc n) (y ∷ ys) x e = front_after n ys x e

pub front_from_get : {A : Type 0} (n : ℕ) (xs : List A) (x : A) → slice_get xs n ≡ Some x → drop n xs ≡ x ∷ drop 1 (drop n xs)
front_from_get = front_after

pub drop_whole : {A : Type 0} (n : ℕ) (xs : List A) → length xs ≤ n → drop n xs ≡ []
drop_whole n xs h = drop_all n xs h

-- the element after the front one
pub second_from_get : {A : Type 0} (n : ℕ) (xs : List A) (x : A) → slice_get xs (n + 1) ≡ Some x → drop 1 (drop n xs) ≡ x ∷ drop 1 (drop 1 (drop n xs))
second_from_get n xs x e = rw (← drop_one_more n xs) (front_after (n + 1) xs x e)

pub second_past : {A : Type 0} (n : ℕ) (xs : List A) → length xs - n < 2 → drop 1 (drop n xs) ≡ []
second_past n xs h = sym (drop_one_more n xs) ∙ drop_all (n + 1) xs (omega arith)
