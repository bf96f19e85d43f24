-- Entries of lists: where they are in a front, in a list made of another and in a list after another; lists that go
-- together.
use Rattle.rbg_base.proofs.Common.{◌≡◌, ℕ, zero, suc, ◌+◌, ◌<◌, List, [], ◌∷◌, ◌++◌, Some, length, get_or, take, drop, map, flat_map, refl, sym, ap, ◌∙◌, subst, arith, slice_get, Contains, AllZip, Contains-append_left, Contains-append_right, slice_get_within, slice_get_read}
use Rattle.std.proofs.lemmas.List.{get_or-map, length-map, length-take, take-append-drop}
use Rattle.std.proofs.lemmas.Slice.Zip.{all_zipped_more}
use Rattle.rbg_base.proofs.CallerLemmas.{Contains-from_get, get_from-Contains, slice_get-map_at, slice_get-append_left, map-take_more}

-- Entries (rbg_base has those that are shared).

-- the only element of a list of one
pub Contains-one : {A : Type 0} (x y : A) → Contains (x ∷ []) y → x ≡ y
Contains-one x y (zero, within, is) = is
Contains-one x y (suc k, within, is) = absurd (omega arith)

pub slice_get-map_read : {A B : Type 0} (f : A → B) (xs : List A) (i : ℕ) (x : A) → i < length xs → x ≡ get_or xs i x → slice_get (map f xs) i ≡ Some (f x)
slice_get-map_read f xs i x below is = slice_get-map_at f xs i x (slice_get_read xs (length xs) i x refl below is)

pub Contains-map_read : {A B : Type 0} (f : A → B) (xs : List A) (i : ℕ) (x : A) → i < length xs → x ≡ get_or xs i x → Contains (map f xs) (f x)
Contains-map_read f xs i x below is = (i, omega (arith, length-map xs f), get_or-map f xs i x (f x) below ∙ ap f (sym is))

-- What is in a list that is made of another is made of an entry of that.
pub map_entry : {A B : Type 0} (f : A → B) (xs : List A) (i : ℕ) (y : B) → slice_get (map f xs) i ≡ Some y → (x : A) × (slice_get xs i ≡ Some x) × (f x ≡ y)
map_entry f [] i y there = cc
map_entry f (x ∷ xs) zero y there = (x, refl, cc)
map_entry f (x ∷ xs) (suc i) y there = map_entry f xs i y there

pub slice_get-last : {A : Type 0} (xs : List A) (x : A) → slice_get (xs ++ x ∷ []) (length xs) ≡ Some x
slice_get-last [] x = refl
slice_get-last (y ∷ xs) x = slice_get-last xs x

-- An entry of a front is in the list, before the front's end.
pub entry_of_front : {A : Type 0} (k : ℕ) (xs : List A) (i : ℕ) (x : A) → slice_get (take k xs) i ≡ Some x → (slice_get xs i ≡ Some x) × (i < k)
entry_of_front {A} k xs i x there =
    let within : i < length (take k xs) = slice_get_within (take k xs) i x there in
    let P : List A → Type 0 = λ l. slice_get l i ≡ Some x in
    (subst P (take-append-drop k xs) (slice_get-append_left (take k xs) (drop k xs) i x there), omega (arith, length-take k xs))

-- An element of a list is in what many lists make together.
pub Contains-flat_map : {A B : Type 0} (f : A → List B) (xs : List A) (x : A) (y : B) → Contains xs x → Contains (f x) y → Contains (flat_map f xs) y
Contains-flat_map f [] x y list here = absurd (omega (arith, list.1))
Contains-flat_map f (z ∷ zs) x y (zero, within, is) here = Contains-append_left (f z) (flat_map f zs) y (subst (λ l. Contains (f l) y) (sym is) here)
Contains-flat_map f (z ∷ zs) x y (suc k, within, is) here = Contains-append_right (f z) (flat_map f zs) y (Contains-flat_map f zs x y (k, omega arith, is) here)

-- Lists that go together.

-- a loop's step: one more element with its fellow
pub AllZip-step : {A B D : Type 0} (P : B → D → Type 0) (f : A → B) (xs : List A) (ys : List D) (i : ℕ) (x : A) (y : D) → i < length xs → x ≡ get_or xs i x → AllZip P (map f (take i xs)) ys → P (f x) y → AllZip P (map f (take (i + 1) xs)) (ys ++ y ∷ [])
AllZip-step P f xs ys i x y within is so_far here = rw (map-take_more f xs i x within is) (all_zipped_more P (map f (take i xs)) ys (f x) y so_far here)

pub AllZip-at : {A B : Type 0} (P : A → B → Type 0) (xs : List A) (ys : List B) (i : ℕ) (d : A) (e : B) → AllZip P xs ys → i < length xs → P (get_or xs i d) (get_or ys i e)
AllZip-at P [] [] i d e all within = absurd (omega arith)
AllZip-at P [] (y ∷ ys) i d e all within = absurd all
AllZip-at P (x ∷ xs) [] i d e all within = absurd all
AllZip-at P (x ∷ xs) (y ∷ ys) zero d e all within = all.0
AllZip-at P (x ∷ xs) (y ∷ ys) (suc i) d e all within = AllZip-at P xs ys i d e all.1 (omega arith)

-- an entry of the one has its fellow in the other
fellow_at : {A B : Type 0} (P : A → B → Type 0) (xs : List A) (ys : List B) (i : ℕ) (x : A) → AllZip P xs ys → slice_get xs i ≡ Some x → (y : B) × Contains ys y × P x y
fellow_at P [] ys i x h there = cc
fellow_at P (w ∷ xs) [] i x h there = absurd h
fellow_at {A} P (w ∷ xs) (y ∷ ys) zero x h there =
    let Q : A → Type 0 = λ z. P z y in
    let same : w ≡ x = cc in
    (y, Contains-from_get (y ∷ ys) 0 y refl, subst Q same h.0)
fellow_at P (w ∷ xs) (y ∷ ys) (suc i) x h there =
    let next = fellow_at P xs ys i x h.1 there in
    (next.0, Contains-append_right (y ∷ []) ys next.0 next.1, next.2)

pub fellow : {A B : Type 0} (P : A → B → Type 0) (xs : List A) (ys : List B) (x : A) → AllZip P xs ys → Contains xs x → (y : B) × Contains ys y × P x y
fellow P xs ys x h has =
    let there = get_from-Contains xs x has in
    fellow_at P xs ys there.0 x h there.1

-- If two relations give an element one fellow, they give a list one list of fellows.
pub AllZip-once : {A B : Type 0} (P Q : A → B → Type 0) → ((x : A) (y z : B) → P x y → Q x z → y ≡ z) → (xs : List A) (ys zs : List B) → AllZip P xs ys → AllZip Q xs zs → ys ≡ zs
AllZip-once P Q once [] [] [] left right = refl
AllZip-once P Q once [] [] (z ∷ zs) left right = absurd right
AllZip-once P Q once [] (y ∷ ys) zs left right = absurd left
AllZip-once P Q once (x ∷ xs) [] zs left right = absurd left
AllZip-once P Q once (x ∷ xs) (y ∷ ys) [] left right = absurd right
AllZip-once P Q once (x ∷ xs) (y ∷ ys) (z ∷ zs) left right =
    let here = once x y z left.0 right.0 in
    let after = AllZip-once P Q once xs ys zs left.1 right.1 in
    cc
