use Rattle.rbg_base.proofs.Common.{◌≡◌, ℕ, ◌-◌, ◌%◌, sym, subst, bit_and, and_mask}
use Rattle.rbg_flat.proofs.sets.Sets.column_at.Goals as goal

pub returns-clause-is : goal.returns-clause-is
returns-clause-is c = rw (← c.self.view_is) (subst (λ (k : ℕ). bit_and c.args.place (k - 1) ≡ c.args.place % k) (sym c.self.inside.doubled) (and_mask c.args.place c.self.inside.shift))
