-- One line more is whole.
use Rattle.rbg_script.proofs.WholeLines.{whole_more}
use Rattle.rbg_serving.proofs.cutting.whole_lines.Goals as goal

pub loop-rest-preserved : goal.loop-rest-preserved
loop-rest-preserved c = whole_more _ _ _ _ c.loop-rest.invariant c.in-Some.ensures.found.0 c.in-Some.ensures.found.1
