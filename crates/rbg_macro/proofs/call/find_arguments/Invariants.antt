-- The arguments of the call are those so far, the one that has begun, and those of the rest.
use Rattle.std.proofs.Common.{length, ◌-◌}
use Rattle.rbg_macro.specs.internal.Marks.{KeepsMarks}
use Rattle.rbg_macro.proofs.Arguments.{HasCut}
use Rattle.rbg_macro.proofs.call.find_arguments.Given as goal

abbrev pub invariant-loop-at : goal.invariant-loop-at
invariant-loop-at l = HasCut l.tokens l.at l.further l.start l.found.items × KeepsMarks l.tokens l.found.items

abbrev pub decreases-loop-at : goal.decreases-loop-at
decreases-loop-at l = length l.tokens - l.at
