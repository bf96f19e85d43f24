use Rattle.std.proofs.Common.{◌≡◌, ℕ, ◌+◌, ◌*◌, ◌%◌, ◌≤◌, [], false, sym, ap, subst, refl, ◌∙◌, count_ones}
use Rattle.rbg_flat.proofs.Common.{IsBitOf, Gathers, IsMetAt}
use Rattle.rbg_flat.proofs.Gatherings.{gathers_left, gathers_same, met_bit, bit_met}
use Rattle.rbg_flat.proofs.PlaceLemmas.{of_parts}
use Rattle.rbg_flat.proofs.gathering.count_place.Goals as goal

pub returns : goal.returns
returns c =
    let columns : ℕ = c.args.sets.now.columns in
    let place : ℕ = c.args.place in
    let p : ℕ = c.args.position in
    let column : ℕ = place % columns in
    let word : ℕ = c.met_at.result in
    let parts : place ≡ p * columns + column = of_parts columns place ∙ ap (λ (k : ℕ). k * columns + place % columns) (sym c.requires.position) in
    let few : count_ones word ≤ 64 = subst (λ (n : ℕ). n ≤ 64) c.count.ensures.ones c.count.ensures.few in
    subst (λ (n : ℕ). Gathers (IsMetAt c.args.sets.now place p) [] [] p false n 64) (sym c.count.ensures.ones)
    (gathers_same (IsBitOf column word) (IsMetAt c.args.sets.now place p) [] [] p false (count_ones word) 64
    (met_bit c.args.sets.now place p column word parts c.met_at.ensures.column c.met_at.ensures.is)
    (bit_met c.args.sets.now place p column word parts c.met_at.ensures.column c.met_at.ensures.is)
    (gathers_left [] [] p column word false c.met_at.type_inv few refl refl))
