use Rattle.rbg_base.proofs.Common.{◌≡◌, ℕ, ◌+◌, ◌*◌, ◌<◌, true, false, sym, subst, ◌∙◌, arith, ◌↔◌, slice_get, Some, bit_at}
use Rattle.rbg_flat.proofs.Passings.{no_bits, one_bit_more, no_bit_more}
use Rattle.rbg_flat.proofs.passing.looked_up.Goals.{then-stands_at, else-stands_at}
use Rattle.rbg_flat.proofs.passing.looked_up.Goals as goal

false_not_true : false ≡ true → ⊥
false_not_true e = cc

pub loop-bit-init : goal.loop-bit-init
loop-bit-init c = no_bits (λ (b : ℕ). slice_get c.args.state.now.state.pieces (c.args.column * 64 + b) ≡ Some c.args.piece)

pub loop-bit-preserved : goal.loop-bit-preserved
loop-bit-preserved c = λ b.
    let Good : ℕ → Type 0 = λ (k : ℕ). slice_get c.args.state.now.state.pieces (c.args.column * 64 + k) ≡ Some c.args.piece in
    let bit : ℕ = c.loop-bit.bit in
    let told : (c.stands_at.result ≡ true) ↔ Good bit = subst (λ xs. (c.stands_at.result ≡ true) ↔ (slice_get xs (c.args.column * 64 + bit) ≡ Some c.args.piece)) c.pieces.ensures c.stands_at.ensures in
    elim c.if-stands_at.branch [
      | then-stands_at w ↦ subst (λ (k : ℕ). (bit_at k b ≡ 1) ↔ ((b < bit + 1) × Good b)) (sym w.word-is) (one_bit_more Good c.loop-bit.word bit c.loop-bit.invariant w.unit_word-word.result w.unit_word-word.ensures.only w.unit_word-word.ensures.set (told.0 w.if-stands_at.true) b)
      | else-stands_at w ↦ subst (λ (k : ℕ). (bit_at k b ≡ 1) ↔ ((b < bit + 1) × Good b)) (sym w.word-is) (no_bit_more Good c.loop-bit.word bit c.loop-bit.invariant (λ good. false_not_true (sym w.if-stands_at.false ∙ told.1 good)) b)
    ]

pub returns : goal.returns
returns c = λ b small.
    let end = c.loop-bit-test.false in
    let past = c.loop-bit.auto in
    (λ set. ((c.loop-bit.invariant b).0 set).1, λ good. (c.loop-bit.invariant b).1 (omega (arith, small, end), good))
