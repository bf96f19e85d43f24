-- One more number is read.
use Rattle.rbg_questions.proofs.Packed.{fours_more}
use Rattle.rbg_questions.proofs.packing.read_fours.Goals as goal

pub loop-index-preserved : goal.loop-index-preserved
loop-index-preserved c = fours_more _ _ _ _ _ _ c.loop-index-test.true c.requires c.loop-index.invariant c.four_at.ensures.bytes c.four_at.ensures.small c.in_ok-push.ensures.items
