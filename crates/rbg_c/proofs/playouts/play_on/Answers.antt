-- One more move is made, or there is none, or it isn't made.
use Rattle.std.proofs.Common.{rules, ◌≡◌, arith, false, true}
use Rattle.rbg_base.proofs.Errors.{passed_on}
use Rattle.rbg_c.proofs.ByChance.{all_made, ends_so, gone_none, played_one, not_on}
use Rattle.rbg_c.proofs.playouts.play_on.Goals as goal

pub loop-init : goal.loop-init
loop-init c = gone_none _ c.requires

pub loop-preserved : goal.loop-preserved
loop-preserved c =
    let made : c.in_ok-made.made ≡ true = search rules in
    played_one _ c.loop.state _ c.loop.counter _ _ c.loop.invariant (rw made at c.in_ok-made.ensures.plays)

pub returns-then-not-made-clause-plays : goal.returns-then-not-made-clause-plays
returns-then-not-made-clause-plays c =
    let none : c.in_ok-made.made ≡ false = search rules in
    ends_so _ c.loop.state _ _ c.loop.counter _ _ c.loop.invariant (rw none at c.in_ok-made.ensures.plays) (omega (arith, c.loop-test.true))

pub returns-in_err-made-clause-stuck : goal.returns-in_err-made-clause-stuck
returns-in_err-made-clause-stuck c =
    passed_on c.from_residual.result c.in_err-made.field-0.0 _ c.from_residual.ensures.1
    (not_on _ c.loop.state _ c.loop.counter _ c.loop.invariant (omega (arith, c.loop-test.true)) c.in_err-made.ensures.stuck)

pub returns-clause-plays : goal.returns-clause-plays
returns-clause-plays c = all_made _ _ _ c.loop.counter c.loop.invariant (omega (arith, c.loop-test.false))
