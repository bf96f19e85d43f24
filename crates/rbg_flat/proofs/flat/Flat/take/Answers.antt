use Rattle.std.proofs.Common.{◌≡◌, ℕ, ◌+◌, ◌*◌, ◌/◌, inl, inr, true, false, refl, sym, ◌∙◌, arith}
use Rattle.rbg_flat.specs.Chains.{Holds}
use Rattle.rbg_flat.proofs.Doing.{this_or_not}
use Rattle.rbg_flat.proofs.Takings.{held_by, holds_same}
use Rattle.rbg_flat.proofs.flat.Flat.take.Goals.{then-valid, else-valid}
use Rattle.rbg_flat.proofs.flat.Flat.take.Goals as goal

true_not_false : true ≡ false → ⊥
true_not_false e = cc

pub returns-clause-begun : goal.returns-clause-begun
returns-clause-begun c = λ f told is.
    let s = c.args.state.now.state in
    let vertex : ℕ = c.args.vertex in
    let p : ℕ = c.args.position in
    let word : ℕ = c.unit_word-bits.result in
    let whole : c.args.valid ≡ true → c.if-valid.held ≡ word = λ e. elim c.if-valid.branch [ then-valid w ↦ w.held-is | else-valid w ↦ absurd (true_not_false (sym e ∙ w.if-valid.false)) ] in
    let none : c.args.valid ≡ false → c.if-valid.held ≡ 0 = λ e. elim c.if-valid.branch [ then-valid w ↦ absurd (true_not_false (sym w.if-valid.true ∙ e)) | else-valid w ↦ w.held-is ] in
    c.take_word.ensures.begun f
    (λ b small set.
    let bit = c.unit_word-bits.ensures.only b set in
    let same : vertex / 64 * 64 + b ≡ vertex = omega (arith, bit) in
    held_by c.args.valid c.if-valid.held word b (Holds c.args.game.now s (vertex / 64 * 64 + b) p)
    (holds_same c.args.game.now s vertex p (vertex / 64 * 64 + b) (c.args.valid ≡ true) same told)
    whole none set)
    is

pub returns-clause-done : goal.returns-clause-done
returns-clause-done c = c.take_word.ensures.done c.args.vertex (record { position = refl; column = refl; set = c.unit_word-bits.ensures.set })

pub returns-clause-quiet : goal.returns-clause-quiet
returns-clause-quiet c = λ v p pattern done. elim (this_or_not c.args.position c.args.vertex c.unit_word-bits.result c.unit_word-bits.ensures.only v p) [
  | inl this ↦ inl this
  | inr other ↦ inr (c.take_word.ensures.quiet v p pattern other done)
]
