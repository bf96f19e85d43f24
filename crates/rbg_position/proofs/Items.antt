-- Lists that are compared or gone through item by item.
use Rattle.rbg_base.proofs.Common.{◌≡◌, ℕ, ◌+◌, ◌<◌, ◌≤◌, List, [], ◌∷◌, ◌++◌, length, get_or, map, take, slice_get, fold, Some, ap, sym, ◌∙◌, slice_get_within, get_or_from_slice_get}
use Rattle.std.proofs.lemmas.List.{take_more, take_all, map-append}
use Rattle.std.proofs.lemmas.Grind.{fold-append}

take_one : {A : Type 0} (xs : List A) (i : ℕ) (x : A) → slice_get xs i ≡ Some x → take (i + 1) xs ≡ take i xs ++ x ∷ []
take_one xs i x e =
    take_more xs i x (slice_get_within xs i x e) ∙ ap (λ y. take i xs ++ y ∷ []) (get_or_from_slice_get xs i x x e)

-- one item more is the same
pub same_more : {A : Type 0} (xs ys : List A) (i : ℕ) (x y : A) → take i xs ≡ take i ys → slice_get xs i ≡ Some x → slice_get ys i ≡ Some y → x ≡ y → take (i + 1) xs ≡ take (i + 1) ys
same_more xs ys i x y so_far x_at y_at same =
    take_one xs i x x_at ∙ ((λ k. so_far k ++ same k ∷ []) ∙ sym (take_one ys i y y_at))

-- all items are the same
pub same_all : {A : Type 0} (xs ys : List A) (i : ℕ) → take i xs ≡ take i ys → length xs ≤ i → length ys ≤ i → xs ≡ ys
same_all xs ys i same x_all y_all = sym (take_all i xs x_all) ∙ (same ∙ take_all i ys y_all)

some_item : {A : Type 0} (x y : A) → Some x ≡ Some y → x ≡ y
some_item x y e = cc

-- lists with different items at one place differ
pub differ_at : {A : Type 0} (xs ys : List A) (i : ℕ) (x y : A) → slice_get xs i ≡ Some x → slice_get ys i ≡ Some y → (x ≡ y → ⊥) → xs ≡ ys → ⊥
differ_at xs ys i x y x_at y_at apart same = apart (some_item x y (sym x_at ∙ (ap (λ zs. slice_get zs i) same ∙ y_at)))

-- what is made of the items up to one, and that one
pub fold_map_more : {A B C : Type 0} (h : C → B → C) (f : A → B) (first : C) (xs : List A) (i : ℕ) (x : A) → i < length xs → x ≡ get_or xs i x
    → fold h first (map f (take (i + 1) xs)) ≡ h (fold h first (map f (take i xs))) (f x)
fold_map_more h f first xs i x within is =
    let more : take (i + 1) xs ≡ take i xs ++ x ∷ [] = take_more xs i x within ∙ ap (λ y. take i xs ++ y ∷ []) (sym is) in
    ap (λ ys. fold h first (map f ys)) more
    ∙ (ap (λ ys. fold h first ys) (map-append f (take i xs) (x ∷ [])) ∙ fold-append h first (map f (take i xs)) (f x ∷ []))
