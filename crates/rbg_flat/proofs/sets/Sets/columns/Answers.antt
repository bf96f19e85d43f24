use Rattle.std.proofs.Common.{ℕ, ◌≤◌, sym, subst}
use Rattle.std.proofs.Math.Pow.{pow_mono}
use Rattle.rbg_flat.proofs.sets.Sets.columns.Goals as goal

pub returns-clause-few : goal.returns-clause-few
returns-clause-few c = subst (λ (k : ℕ). k ≤ 64) (sym c.self.inside.doubled) (pow_mono c.self.inside.few)
