-- One more length.
use Rattle.rbg_view.proofs.Spots.{widest_more}
use Rattle.rbg_view.proofs.drawing.widest_of.Goals as goal

pub loop-length-preserved : goal.loop-length-preserved
loop-length-preserved c = widest_more _ _ _ _ c.loop-length-test.true c.loop-length.invariant c.max-most.ensures
