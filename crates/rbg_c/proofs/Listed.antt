-- All legal moves as numbers.
use Rattle.rbg_base.proofs.Common.{◌≡◌, ℕ, ◌+◌, ◌<◌, List, [], ◌∷◌, ◌++◌, length, take, slice_get, Some, ap, sym, ◌∙◌, refl, subst, append_assoc, append-nil, take_more, slice_get_within, get_or_from_slice_get}
use Rattle.std.specs.Prelude.{Option, None}
use Rattle.std.specs.List.{flat_map}
use Rattle.std.proofs.lemmas.List.Concat.{flat_map-append}
use Rattle.rbg_c.specs.States.{AbstractState, FindsMoves}
use Rattle.rbg_c.specs.Filling.{Fills, FillsMade, made}
use Rattle.rbg_c.specs.Listing.{ListsMoves, listed, numbers_of_move, numbers_of_moves, numbers_of_pair}

-- one more item of a list whose items are told one after the other
told_more : {X : Type 0} (f : X → List ℕ) (old mid new : List ℕ) (xs : List X) (index : ℕ) (x : X) → mid ≡ old ++ flat_map f (take index xs) → slice_get xs index ≡ Some x → new ≡ mid ++ f x → new ≡ old ++ flat_map f (take (index + 1) xs)
told_more {X} f old mid new xs index x so_far there written =
    let longer : take (index + 1) xs ≡ take index xs ++ x ∷ [] =
    take_more xs index x (slice_get_within xs index x there) ∙ ap (λ y. take index xs ++ y ∷ []) (get_or_from_slice_get xs index x x there) in
    let told : flat_map f (take (index + 1) xs) ≡ flat_map f (take index xs) ++ f x =
    ap (flat_map f) longer ∙ (flat_map-append f (take index xs) (x ∷ []) ∙ ap (λ t. flat_map f (take index xs) ++ t) (append-nil (f x))) in
    written ∙ (ap (λ m. m ++ f x) so_far ∙ (append_assoc old (flat_map f (take index xs)) (f x) ∙ ap (λ t. old ++ t) (sym told)))

pub moves_more : (mid new : List ℕ) (moves : List (List (ℕ × ℕ))) (index : ℕ) (pairs : List (ℕ × ℕ)) → mid ≡ numbers_of_moves (take index moves) → slice_get moves index ≡ Some pairs → new ≡ mid ++ numbers_of_move pairs → new ≡ numbers_of_moves (take (index + 1) moves)
moves_more mid new moves index pairs so_far there written = told_more numbers_of_move [] mid new moves index pairs so_far there written

pub pairs_more : (old mid new : List ℕ) (pairs : List (ℕ × ℕ)) (index : ℕ) (pair : ℕ × ℕ) → mid ≡ old ++ flat_map numbers_of_pair (take index pairs) → slice_get pairs index ≡ Some pair → new ≡ mid ++ numbers_of_pair pair → new ≡ old ++ flat_map numbers_of_pair (take (index + 1) pairs)
pairs_more old mid new pairs index pair so_far there written = told_more numbers_of_pair old mid new pairs index pair so_far there written

-- the moves that were found are put into a buffer
pub fills_found : (found : Option (List (List (ℕ × ℕ)))) (there moves : List (List (ℕ × ℕ))) (numbers slice old new : List ℕ) (needed result : ℕ) → found ≡ Some there → slice ≡ numbers → numbers ≡ numbers_of_moves there → Fills slice old new needed result → found ≡ Some moves → FillsMade (numbers_of_moves moves) old new needed result
fills_found found there moves numbers slice old new needed result is same are fills asked =
    let both : Some there ≡ Some moves = sym is ∙ asked in
    let one : there ≡ moves = cc in
    made (subst (λ (items : List ℕ). Fills items old new needed result) (same ∙ (are ∙ ap numbers_of_moves one)) fills)

-- they are found in the state of a handle
pub lists_found : (before after : Option AbstractState) (state same found lent : AbstractState) (count : ℕ) (old new : List ℕ) (needed result : ℕ) → before ≡ Some state → after ≡ Some found → same ≡ state → lent ≡ found → FindsMoves same count found → ((moves : List (List (ℕ × ℕ))) → lent.found ≡ Some moves → FillsMade (numbers_of_moves moves) old new needed result) → ListsMoves before after old new needed result
lists_found before after state same found lent count old new needed result is then same_state same_found finds fills =
    let here : FindsMoves state count found = subst (λ (s : AbstractState). FindsMoves s count found) same_state finds in
    let there : lent.found ≡ Some here.moves = ap (λ (s : AbstractState). s.found) (same_found ∙ here.is) in
    listed is then here (fills here.moves there)
