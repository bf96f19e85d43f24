-- One more bound is put there.
use Rattle.std.proofs.Common.{arith}
use Rattle.rbg_c.proofs.Filled.{filled_one}
use Rattle.rbg_c.proofs.shape.copy_bounds.Goals as goal

pub loop-index-preserved : goal.loop-index-preserved
loop-index-preserved c =
    filled_one c.args.game.now.bounds c.args.buffer.now c.loop-index.buffer c.loop-index.index c.bound.result (omega (arith, c.loop-index-test.true, c.requires.many)) (omega (arith, c.loop-index-test.true, c.requires.room)) c.loop-index.invariant c.bound.ensures
