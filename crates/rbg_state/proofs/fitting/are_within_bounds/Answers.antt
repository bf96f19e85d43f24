-- One more value is within its bound, or not.
use Rattle.rbg_base.proofs.Common.{◌≤◌, slice_index, arith, get_or_from_slice_get}
use Rattle.std.proofs.lemmas.Bool.{false≢true}
use Rattle.rbg_state.proofs.OneMore.{one_more_fits}
use Rattle.rbg_state.proofs.fitting.are_within_bounds.Goals as goal

pub overflow_cast-variable : goal.overflow_cast-variable
overflow_cast-variable c = omega (arith, c.loop-variable-test.true, c.variables-variable-end.ensures.count, c.variables-variable-end.ensures.lawful.limits.variables)

pub returns-then-values-variable : goal.returns-then-values-variable
returns-then-values-variable c =
    let bound = get_or_from_slice_get c.args.game.now.bounds c.loop-variable.variable c.bound.result 0 c.bound.ensures in
    let within = c.loop-variable-test.true in
    (λ no. absurd (false≢true no), λ all. absurd (omega (arith, all c.loop-variable.variable (omega (arith, within, c.requires, c.variables-variable-end.ensures.count)), c.if-values-variable.true, bound)))

pub loop-variable-preserved : goal.loop-variable-preserved
loop-variable-preserved c =
    let bound = get_or_from_slice_get c.args.game.now.bounds c.loop-variable.variable c.bound.result 0 c.bound.ensures in
    one_more_fits (λ v. slice_index c.args.values.now v ≤ slice_index c.args.game.now.bounds v) c.loop-variable.variable c.loop-variable.invariant
    (omega (arith, c.if-values-variable.false, bound))
