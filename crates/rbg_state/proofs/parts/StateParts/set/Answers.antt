use Rattle.rbg_base.proofs.Common.{◌≡◌, ℕ, List, slice_set, get_or, refl, sym, ap, ◌∙◌, get_or_from_slice_get}
use Rattle.std.proofs.lemmas.List.{set-set, set-get_or}
use Rattle.rbg_state.proofs.parts.StateParts.set.Goals as goal

-- an element is set, and then set back
set_again : (xs ys : List ℕ) (i x y : ℕ) → ys ≡ slice_set xs i x → y ≡ get_or xs i y → slice_set ys i y ≡ xs
set_again xs ys i x y is was = ap (λ (zs : List ℕ). slice_set zs i y) is ∙ set-set xs i x y ∙ ap (slice_set xs i) was ∙ set-get_or xs i y

pub returns-in-Piece-clause-back : goal.returns-in-Piece-clause-back
returns-in-Piece-clause-back c =
    let s = c.self.inside in
    let was = sym (get_or_from_slice_get s.occupancy c.in-Piece.vertex c.put.result c.put.result c.put.ensures.replaced) in
    let back = set_again s.occupancy c.put.new.self c.in-Piece.vertex c.in-Piece.piece c.put.result c.put.ensures.put was in
    rw (← c.self.view_is) (λ i. record { player = s.player; pieces = back i; values = s.values.items; vertex = s.vertex })

pub returns-in-Value-clause-back : goal.returns-in-Value-clause-back
returns-in-Value-clause-back c =
    let s = c.self.inside in
    let values = s.values.items in
    let variable = c.in-Value.variable in
    let result = c.replace-in-Value.ensures.value in
    let was : c.replace-in-Value.result ≡ get_or values variable c.replace-in-Value.result = result ∙ c.index_mut.ensures.value ∙ ap (get_or values variable) (sym result) in
    let back = set_again values (slice_set values variable c.replace-in-Value.new.dest) variable c.replace-in-Value.new.dest c.replace-in-Value.result refl was in
    rw (← c.self.view_is) (λ i. record { player = s.player; pieces = s.occupancy; values = back i; vertex = s.vertex })
