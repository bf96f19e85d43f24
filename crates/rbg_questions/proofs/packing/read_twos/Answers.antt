-- One more number is read.
use Rattle.rbg_questions.proofs.Packed.{twos_more}
use Rattle.rbg_questions.proofs.packing.read_twos.Goals as goal

pub loop-index-preserved : goal.loop-index-preserved
loop-index-preserved c = twos_more _ _ _ _ _ _ c.loop-index-test.true c.requires c.loop-index.invariant c.two_at.ensures.bytes c.two_at.ensures.small c.in_ok-push.ensures.items
