-- One more value is put there.
use Rattle.std.proofs.Common.{arith}
use Rattle.rbg_c.proofs.Filled.{filled_one}
use Rattle.rbg_c.proofs.filling.copy_values.Goals as goal

pub loop-index-preserved : goal.loop-index-preserved
loop-index-preserved c =
    filled_one c.args.state.now.place.state.values c.args.buffer.now c.loop-index.buffer c.loop-index.index c.value.result (omega (arith, c.loop-index-test.true, c.requires.many)) (omega (arith, c.loop-index-test.true, c.requires.room)) c.loop-index.invariant c.value.ensures
