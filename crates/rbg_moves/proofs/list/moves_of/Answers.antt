-- One more move of the list.
use Rattle.rbg_base.proofs.Common.{◌≡◌, ◌<◌, ◌++◌, ◌∷◌, [], ℕ, List, length, take, get_or, sym, ap, ◌∙◌, take_more, slice_get_within, get_or_from_slice_get}
use Rattle.rbg_moves.proofs.list.moves_of.Goals as goal

pub loop-index-preserved : goal.loop-index-preserved
loop-index-preserved c =
    let list : List (List (ℕ × ℕ)) = c.args.list.now in
    let i : ℕ = c.loop-index.index in
    let x : List (ℕ × ℕ) = c.get.result.now in
    let under : i < length list = slice_get_within list i x c.get.ensures.pairs in
    let is : get_or list i x ≡ x = get_or_from_slice_get list i x x c.get.ensures.pairs in
    c.in_ok-push.ensures.items
    ∙ ap (λ (ms : List (List (ℕ × ℕ))). ms ++ c.move_of.result ∷ []) c.loop-index.invariant
    ∙ ap (λ (m : List (ℕ × ℕ)). take i list ++ m ∷ []) (c.move_of.ensures ∙ sym is)
    ∙ sym (take_more list i x under)
