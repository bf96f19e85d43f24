use Rattle.std.proofs.Common.{◌≡◌, ℕ, List, get_or, subst, arith, Contains}
use Rattle.rbg_shifts.proofs.Common.{IsShiftAt, StepsBack, StepsForth}
use Rattle.rbg_shifts.proofs.Cases.{not_both}
use Rattle.rbg_shifts.proofs.Fillings.{each_listed, is_listed}
use Rattle.rbg_shifts.proofs.filling.repeats.Goals as goal

pub returns-then-repeats_by-clause-none : goal.returns-then-repeats_by-clause-none
returns-then-repeats_by-clause-none c = λ l forth.
    let xs : List ℕ = c.list-listed-items.result.now in
    absurd (not_both c.if-repeats_by.true (c.repeats_by.ensures.none l (forth (get_or xs c.loop-listed.listed-index 0) (subst (λ (ys : List ℕ). Contains ys (get_or xs c.loop-listed.listed-index 0)) c.list-listed-items.ensures (is_listed xs c.loop-listed.listed-index c.loop-listed-test.true)))))

pub returns-clause-back : goal.returns-clause-back
returns-clause-back c = λ l none.
    each_listed (λ q. IsShiftAt c.args.ground.now.rules q → get_or c.args.lists.now.afters.items q 0 ≡ c.args.node → StepsBack c.args.ground.now q)
    c.list-listed-items.ensures (λ i below. c.loop-listed.invariant.back l i (omega (arith, below, c.loop-listed-test.false)))

pub returns-clause-forth : goal.returns-clause-forth
returns-clause-forth c = λ l none.
    each_listed (λ q. IsShiftAt c.args.ground.now.rules q → get_or c.args.lists.now.afters.items q 0 ≡ c.args.node → StepsForth c.args.ground.now q)
    c.list-listed-items.ensures (λ i below. c.loop-listed.invariant.forth l i (omega (arith, below, c.loop-listed-test.false)))
