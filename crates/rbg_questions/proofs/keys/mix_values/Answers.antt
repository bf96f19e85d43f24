-- One more number.
use Rattle.rbg_questions.proofs.Mixing.{mixes_on}
use Rattle.rbg_questions.proofs.keys.mix_values.Goals as goal

pub loop-value-preserved : goal.loop-value-preserved
loop-value-preserved c = mixes_on _ _ _ _ _ _ c.loop-value-test.true c.loop-value.invariant c.from.ensures c.mix-key.ensures
