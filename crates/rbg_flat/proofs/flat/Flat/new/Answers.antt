use Rattle.std.proofs.Common.{ℕ, ◌≤◌, sym, subst, rules}
use Rattle.std.proofs.Math.Pow.{pow_mono}
use Rattle.rbg_shifts.specs.Limits.{row_words}
use Rattle.rbg_flat.proofs.flat.Flat.new.Goals as goal

pub returns : goal.returns
returns c = record {
  size = search rules;
  columns =
      let enough : row_words c.args.game.now ≤ _ = search rules in
      subst (λ (k : ℕ). row_words c.args.game.now ≤ k) (sym c.in_ok-new.ensures.columns) enough;
  few = subst (λ (k : ℕ). k ≤ 64) (sym c.in_ok-new.ensures.columns) (pow_mono c.doublings-shift.ensures.few);
}
