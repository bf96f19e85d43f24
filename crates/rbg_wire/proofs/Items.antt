-- The first of the items that a stream has completed, or none.
use Rattle.rbg_base.proofs.Common.{◌≡◌, List, [], ◌∷◌, drop, refl, sym, Some, None, slice_get, none-some}
use Rattle.rbg_base.proofs.CallerLemmas.{drop-from_get}

pub first_and_others : {A : Type 0} (xs : List A) (x : A) → slice_get xs 0 ≡ Some x → xs ≡ x ∷ drop 1 xs
first_and_others xs x first = drop-from_get 0 xs x first

pub nothing_first : {A : Type 0} (xs : List A) → slice_get xs 0 ≡ None → xs ≡ []
nothing_first [] first = refl
nothing_first (y ∷ xs) first = absurd (none-some y (sym first))
