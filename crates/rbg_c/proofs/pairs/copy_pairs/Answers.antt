-- One more pair is put there.
use Rattle.std.proofs.Common.{ℕ, Some, ap, sym, ◌∙◌, arith}
use Rattle.std.proofs.lemmas.Option.{slice_get-get_or}
use Rattle.rbg_c.proofs.Filled.{filled_one}
use Rattle.rbg_c.proofs.pairs.copy_pairs.Goals as goal

pub loop-index-preserved : goal.loop-index-preserved
loop-index-preserved c =
    filled_one c.args.pairs.now c.args.buffer.now c.loop-index.buffer c.loop-index.index c.given.result (omega (arith, c.loop-index-test.true)) (omega (arith, c.loop-index-test.true, c.requires)) c.loop-index.invariant
    (slice_get-get_or c.args.pairs.now c.loop-index.index c.index-pairs-index.result (omega (arith, c.loop-index-test.true)) ∙ (ap (λ (p : ℕ × ℕ). Some p) (sym c.index-pairs-index.is) ∙ ap (λ (p : ℕ × ℕ). Some p) (sym c.given.ensures)))
