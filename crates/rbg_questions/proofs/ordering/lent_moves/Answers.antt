-- One more move of the list.
use Rattle.rbg_base.proofs.Common.{◌≡◌, ◌<◌, ◌++◌, ◌∷◌, [], ℕ, List, length, map, take, get_or, sym, ap, ◌∙◌, take_more, slice_get_within, get_or_from_slice_get}
use Rattle.std.proofs.lemmas.List.{map-append}
use Rattle.rbg_questions.proofs.ordering.lent_moves.Goals as goal

pub loop-index-preserved : goal.loop-index-preserved
loop-index-preserved c =
    let list : List (List (ℕ × ℕ)) = c.args.moves.now in
    let i : ℕ = c.loop-index.index in
    let x : List (ℕ × ℕ) = c.get.result.now in
    let under : i < length list = slice_get_within list i x c.get.ensures.pairs in
    let is : get_or list i x ≡ x = get_or_from_slice_get list i x x c.get.ensures.pairs in
    ap (map (λ m. m.now)) c.in_ok-push.ensures.items
    ∙ map-append (λ m. m.now) c.loop-index.lent.items _
    ∙ ap (λ (ms : List (List (ℕ × ℕ))). ms ++ x ∷ []) c.loop-index.invariant
    ∙ ap (λ (m : List (ℕ × ℕ)). take i list ++ m ∷ []) (sym is)
    ∙ sym (take_more list i x under)
