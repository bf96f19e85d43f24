-- Steps of loops that fill a list.
use Rattle.rbg_base.proofs.Common.{◌≡◌, ℕ, ◌+◌, ◌<◌, List, [], ◌∷◌, ◌++◌, length, get_or, take, map, map-append, take_more}

-- What is made of one more element is added.
pub map_one_more : {A B : Type 0} (f : A → B) (xs ys : List A) (i : ℕ) (x d : A) → i < length ys → map f xs ≡ map f (take i ys) → f x ≡ f (get_or ys i d) → map f (xs ++ x ∷ []) ≡ map f (take (i + 1) ys)
map_one_more f xs ys i x d below so_far same =
    let new = map-append f xs (x ∷ []) in
    let old = map-append f (take i ys) (get_or ys i d ∷ []) in
    let more = take_more ys i d below in
    cc
