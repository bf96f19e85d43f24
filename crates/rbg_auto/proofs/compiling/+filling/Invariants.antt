-- What the loops over parts keep.
use Rattle.std.proofs.Common.{◌≤◌, length}
use Rattle.rbg_auto.proofs.PlainNodeLemmas.{FilledSoFar, OwesNodes}
use Rattle.rbg_auto.proofs.compiling.+filling.Given as goal

abbrev pub invariant-fill_sequence-loop-left : goal.invariant-fill_sequence-loop-left
invariant-fill_sequence-loop-left l = record {
  owes : OwesNodes l.fn.nodes l.nodes l.parts l.left l.rest.positions.items l.rest.may_end l.later.positions.items l.later.may_end;
  below : l.left ≤ length l.parts;
}

abbrev pub decreases-fill_sequence-loop-left : goal.decreases-fill_sequence-loop-left
decreases-fill_sequence-loop-left l = l.left

abbrev pub invariant-fill_sum-loop-part : goal.invariant-fill_sum-loop-part
invariant-fill_sum-loop-part l = FilledSoFar l.fn.nodes l.nodes l.parts l.part-index l.rest.positions.items l.rest.may_end
