use Rattle.std.proofs.Common.{◌≡◌, ℕ, ◌+◌, ◌*◌, ◌%◌, ◌≤◌, sym, ap, subst, refl, ◌∙◌, count_ones}
use Rattle.rbg_flat.proofs.Common.{IsBitOf, Gathers, IsMetAt}
use Rattle.rbg_flat.proofs.Gatherings.{gathers_kept, gathers_left, gathers_same, met_bit, bit_met}
use Rattle.rbg_flat.proofs.PlaceLemmas.{of_parts}
use Rattle.rbg_flat.proofs.gathering.gather_place.Goals as goal

pub returns-in_ok-push_word : goal.returns-in_ok-push_word
returns-in_ok-push_word c =
    let columns : ℕ = c.args.sets.now.columns in
    let place : ℕ = c.args.place in
    let p : ℕ = c.args.position in
    let column : ℕ = c.column_at.result in
    let word : ℕ = c.met_at-word.result in
    let parts : place ≡ p * columns + column = of_parts columns place ∙ ap (λ (k : ℕ). k * columns + place % columns) (sym c.requires.position) ∙ ap (λ (k : ℕ). p * columns + k) (sym c.column_at.ensures.is) in
    let few : count_ones word ≤ 64 = subst (λ (n : ℕ). n ≤ 64) c.count.ensures.ones c.count.ensures.few in
    subst (λ (n : ℕ). Gathers (IsMetAt c.args.sets.now place p) c.args.found.now c.push_word.new.self p c.args.keeps n 64) (sym c.count.ensures.ones)
    (gathers_same (IsBitOf column word) (IsMetAt c.args.sets.now place p) c.args.found.now c.push_word.new.self p c.args.keeps (count_ones word) 64
    (met_bit c.args.sets.now place p column word parts c.column_at.ensures.below c.met_at-word.ensures.is)
    (bit_met c.args.sets.now place p column word parts c.column_at.ensures.below c.met_at-word.ensures.is)
    (gathers_kept c.args.found.now c.push_word.new.self p column word c.args.keeps c.met_at-word.type_inv few c.if-keeps.true c.in_ok-push_word.ensures))

pub returns-else-keeps : goal.returns-else-keeps
returns-else-keeps c =
    let columns : ℕ = c.args.sets.now.columns in
    let place : ℕ = c.args.place in
    let p : ℕ = c.args.position in
    let column : ℕ = place % columns in
    let word : ℕ = c.met_at-word.result in
    let parts : place ≡ p * columns + column = of_parts columns place ∙ ap (λ (k : ℕ). k * columns + place % columns) (sym c.requires.position) in
    let few : count_ones word ≤ 64 = subst (λ (n : ℕ). n ≤ 64) c.count-else-keeps.ensures.ones c.count-else-keeps.ensures.few in
    subst (λ (n : ℕ). Gathers (IsMetAt c.args.sets.now place p) c.args.found.now c.args.found.now p c.args.keeps n 64) (sym c.count-else-keeps.ensures.ones)
    (gathers_same (IsBitOf column word) (IsMetAt c.args.sets.now place p) c.args.found.now c.args.found.now p c.args.keeps (count_ones word) 64
    (met_bit c.args.sets.now place p column word parts c.met_at-word.ensures.column c.met_at-word.ensures.is)
    (bit_met c.args.sets.now place p column word parts c.met_at-word.ensures.column c.met_at-word.ensures.is)
    (gathers_left c.args.found.now c.args.found.now p column word c.args.keeps c.met_at-word.type_inv few c.if-keeps.false refl))
