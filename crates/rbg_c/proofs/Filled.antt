-- Buffers that are filled.
use Rattle.rbg_base.proofs.Common.{◌≡◌, ℕ, suc, ◌+◌, ◌<◌, List, [], ◌∷◌, ◌++◌, length, take, drop, set, get_or, Some, slice_get, ap, sym, ◌∙◌, subst, arith, append_assoc, drop-cons, length-take-le, take_more, get_or_from_slice_get}
use Rattle.std.specs.Prelude.{Option}
use Rattle.std.proofs.Math.Seq.{set-append_seam}
use Rattle.rbg_c.specs.States.{AbstractState}
use Rattle.rbg_rules.specs.Meaning.{AbstractGame}
use Rattle.rbg_c.specs.Filling.{Fills, Fetches, there, FillsSome, told}
use Rattle.rbg_c.specs.Names.{names_of}
use Rattle.rbg_c.specs.Results.{range}

-- one more item is put into a buffer
pub filled_one : {X : Type 0} (items old buffer : List X) (i : ℕ) (x : X) → i < length items → i < length old → buffer ≡ take i items ++ drop i old → slice_get items i ≡ Some x → set buffer i x ≡ take (i + 1) items ++ drop (i + 1) old
filled_one {X} items old buffer i x within room is there_is =
    let front : List X = take i items in
    let long : i ≡ length front = sym (length-take-le i items (omega (arith, within))) in
    let more : take (i + 1) items ≡ front ++ x ∷ [] = take_more items i x within ∙ ap (λ y. front ++ y ∷ []) (get_or_from_slice_get items i x x there_is) in
    let on : i + 1 ≡ suc i = omega arith in
    ap (λ ys. set ys i x) (is ∙ ap (λ rest. front ++ rest) (drop-cons old i x room))
    ∙ (ap (λ at. set (front ++ get_or old i x ∷ drop (suc i) old) at x) long
    ∙ (set-append_seam front (get_or old i x) (drop (suc i) old) x
    ∙ (sym (append_assoc front (x ∷ []) (drop (suc i) old))
    ∙ (λ k. sym more k ++ drop (sym on k) old))))

-- items that are those of a state
pub fetched_items : {X : Type 0} (items_of : AbstractState → List X) (before after : Option AbstractState) (state : AbstractState) (items old new : List X) (needed result : ℕ) → before ≡ Some state → after ≡ Some state → items ≡ items_of state → Fills items old new needed result → Fetches items_of before after old new needed result
fetched_items {X} items_of before after state items old new needed result is then same fills =
    there is then (subst (λ (xs : List X). Fills xs old new needed result) same fills)

-- a name that is told
pub named : (kind index : ℕ) (game same : AbstractGame) (name bytes old new : List ℕ) (needed result : ℕ) → same ≡ game → bytes ≡ name → slice_get (names_of kind same) index ≡ Some name → Fills bytes old new needed result → FillsSome (λ found. slice_get (names_of kind game) index ≡ Some found) range old new needed result
named kind index game same name bytes old new needed result is_game is_name there_is fills =
    told (subst (λ (g : AbstractGame). slice_get (names_of kind g) index ≡ Some bytes) is_game (there_is ∙ ap (λ (n : List ℕ). Some n) (sym is_name))) fills
