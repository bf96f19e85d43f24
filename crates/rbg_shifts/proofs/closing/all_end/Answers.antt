use Rattle.std.proofs.Common.{◌≡◌, ℕ, true, false, refl, sym, subst, arith, Bool, IsTrue, not}
use Rattle.rbg_shifts.proofs.Common.{Entry, entry_at}
use Rattle.rbg_shifts.proofs.Places.{before, last, last_place}
use Rattle.rbg_shifts.proofs.closing.all_end.Goals as goal

true_not_false : true ≡ false → ⊥
true_not_false e = cc

from_not : (b : Bool) → not b ≡ false → b ≡ true
from_not true e = refl
from_not false e = absurd (true_not_false e)

pub loop-index-preserved : goal.loop-index-preserved
loop-index-preserved c =
    let k : ℕ = c.loop-index.index in
    let here : IsTrue (entry_at c.args.table.now c.args.node k).ends =
    subst (λ (e : Entry). IsTrue e.ends) c.entry.ensures.entry (from_not c.entry.result.ends c.if-not-entry.false) in
    λ v below. elim (last_place k v below) [
      | before e ↦ c.loop-index.invariant v e
      | last e ↦ subst (λ (w : ℕ). IsTrue (entry_at c.args.table.now c.args.node w).ends) (sym e) here
    ]

pub returns : goal.returns
returns c = λ t v below. c.loop-index.invariant v (let count = c.vertices-index-end.ensures.count in omega (arith, below, count, c.loop-index-test.false))
