use Rattle.std.proofs.Common.{◌<◌, get_or, arith}
use Rattle.rbg_shifts.specs.declared.target.Target.{Target}
use Rattle.rbg_flat.proofs.Endings.{one_more_dead}
use Rattle.rbg_flat.proofs.ending.are_dead.Goals as goal

pub loop-target-preserved : goal.loop-target-preserved
loop-target-preserved c =
    let none : Target = record { position = 0; column = 0; word = 0 } in
    let greater : c.loop-target.before < (get_or c.args.targets.now c.loop-target.target-index none).position = omega (arith, c.if-target-before.false) in
    one_more_dead c.args.setting.now.game.now c.args.setting.now.state.now.state c.args.targets.now c.loop-target.target-index c.loop-target.before none c.loop-target-test.true c.loop-target.invariant
    (c.requires.targets c.loop-target.target-index none c.loop-target-test.true) greater (c.is_dead.ensures c.if-not-is_dead.false)
