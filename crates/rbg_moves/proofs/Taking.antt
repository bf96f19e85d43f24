-- The items below a number.
use Rattle.rbg_base.proofs.Common.{◌≡◌, ◌+◌, ℕ, List, [], ◌∷◌, ◌++◌, take, Some, ap, ◌∙◌, slice_get, take_more, slice_get_within, get_or_from_slice_get}

-- the items below the next index are those below this one and its own
pub take_one : (xs : List ℕ) (i x : ℕ) → slice_get xs i ≡ Some x → take (i + 1) xs ≡ take i xs ++ x ∷ []
take_one xs i x e =
    take_more xs i 0 (slice_get_within xs i x e) ∙ ap (λ y. take i xs ++ y ∷ []) (get_or_from_slice_get xs i x 0 e)
