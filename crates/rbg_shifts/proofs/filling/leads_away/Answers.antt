use Rattle.std.proofs.Common.{◌≢◌, get_or, arith}
use Rattle.rbg_shifts.specs.Leaps.{IsShiftAt}
use Rattle.rbg_shifts.proofs.Fillings.{each_listed}
use Rattle.rbg_shifts.proofs.filling.leads_away.Goals as goal

pub returns : goal.returns
returns c = λ t.
    each_listed (λ q. IsShiftAt c.args.ground.now.rules q → get_or c.args.lists.now.afters.items q 0 ≢ c.args.node)
    c.list-listed-items.ensures (λ i below. c.loop-listed.invariant i (omega (arith, below, c.loop-listed-test.false)))
