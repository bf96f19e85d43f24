-- The lines before what is left are whole.
use Rattle.std.proofs.Common.{length}
use Rattle.rbg_script.specs.internal.Whole.{WholeSoFar}
use Rattle.rbg_serving.proofs.cutting.whole_lines.Given as goal

abbrev pub invariant-loop-rest : goal.invariant-loop-rest
invariant-loop-rest l = WholeSoFar l.text l.left

abbrev pub decreases-loop-rest : goal.decreases-loop-rest
decreases-loop-rest l = length l.left
