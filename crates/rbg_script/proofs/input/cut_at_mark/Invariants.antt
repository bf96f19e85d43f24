-- The lines before what is left are not the mark.
use Rattle.std.proofs.Common.{length}
use Rattle.rbg_script.specs.internal.Reading.{Unmarked}
use Rattle.rbg_script.proofs.input.cut_at_mark.Given as goal

abbrev pub invariant-loop-line : goal.invariant-loop-line
invariant-loop-line l = Unmarked l.input l.left

abbrev pub decreases-loop-line : goal.decreases-loop-line
decreases-loop-line l = length l.left
