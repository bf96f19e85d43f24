-- One more move is made and told, or there is none, or it isn't made.
use Rattle.std.proofs.Common.{rules, ◌≡◌, arith, false, true}
use Rattle.rbg_base.proofs.Errors.{passed_on}
use Rattle.rbg_c.proofs.ByChance.{all_told, tells_so, told_none, told_one, not_on}
use Rattle.rbg_c.proofs.playouts.sample_on.Goals as goal

pub loop-init : goal.loop-init
loop-init c = told_none _ _ c.requires

pub loop-preserved : goal.loop-preserved
loop-preserved c =
    let made : c.in_ok-made.made ≡ true = search rules in
    told_one _ c.loop.state _ c.loop.counter _ _ _ c.loop.invariant (rw made at c.in_ok-made.ensures.plays)

pub returns-then-not-made-clause-plays : goal.returns-then-not-made-clause-plays
returns-then-not-made-clause-plays c =
    let none : c.in_ok-made.made ≡ false = search rules in
    tells_so _ c.loop.state _ _ c.loop.counter _ _ _ c.loop.invariant (rw none at c.in_ok-made.ensures.plays) (omega (arith, c.loop-test.true))

pub returns-in_err-made-clause-stuck : goal.returns-in_err-made-clause-stuck
returns-in_err-made-clause-stuck c =
    passed_on c.from_residual.result c.in_err-made.field-0.0 _ c.from_residual.ensures.1
    (not_on _ c.loop.state _ c.loop.counter _ c.loop.invariant.on (omega (arith, c.loop-test.true)) c.in_err-made.ensures.stuck)

pub returns-clause-plays : goal.returns-clause-plays
returns-clause-plays c = all_told _ _ _ c.loop.counter _ _ c.loop.invariant (omega (arith, c.loop-test.false))
