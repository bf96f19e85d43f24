use Rattle.rbg_base.proofs.Common.{◌≡◌, ℕ, true, false, sym, ◌∙◌, arith, bit_at, bit_at-zero}
use Rattle.rbg_flat.specs.Chains.{Holds}
use Rattle.rbg_flat.proofs.ModifierLemmas.{comparison_plain}
use Rattle.rbg_flat.proofs.Passings.{compares_everywhere}
use Rattle.rbg_flat.proofs.ToTry.{comparison_to_try}
use Rattle.rbg_flat.proofs.passing.comparison_to_try.Goals as goal

false_not_true : false ≡ true → ⊥
false_not_true e = cc

no_bit : (b : ℕ) → bit_at 0 b ≡ 1 → ⊥
no_bit b set = let clear = bit_at-zero b in omega (arith, set, clear)

pub passes_at-requires-clause-plain : goal.passes_at-requires-clause-plain
passes_at-requires-clause-plain c = comparison_plain c.args.game.now.rules c.requires.lawful.numbered c.args.position c.requires.stands

pub returns-then-passes_at : goal.returns-then-passes_at
returns-then-passes_at c = λ v b small.
    let s = c.args.state.now.state in
    let is = c.requires.stands in
    let here = compares_everywhere c.args.game.now c.requires.lawful.numbered s c.args.position is.left is.relation is.right is.stands c.vertex.result v (c.passes_at.ensures.0 c.if-passes_at.true) in
    (λ _. (comparison_to_try c.args.game.now c.requires.lawful.numbered s c.args.position is v).0 here, λ _. c.full_word.ensures b small)

pub returns-else-passes_at : goal.returns-else-passes_at
returns-else-passes_at c = λ v b small.
    let s = c.args.state.now.state in
    let is = c.requires.stands in
    let nowhere : Holds c.args.game.now s v c.args.position → ⊥ = λ passes. false_not_true (sym c.if-passes_at.false ∙ c.passes_at.ensures.1 (compares_everywhere c.args.game.now c.requires.lawful.numbered s c.args.position is.left is.relation is.right is.stands v c.vertex.result passes)) in
    (λ set. absurd (no_bit b set), λ try. absurd (nowhere ((comparison_to_try c.args.game.now c.requires.lawful.numbered s c.args.position is v).1 try)))
