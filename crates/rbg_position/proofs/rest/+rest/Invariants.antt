-- So far nothing was found, and nothing is appended.
use Rattle.std.proofs.Common.{◌≡◌}
use Rattle.rbg_position.proofs.rest.+rest.Given as goal

abbrev pub invariant-push_rest_of_sequence-loop-index : goal.invariant-push_rest_of_sequence-loop-index
invariant-push_rest_of_sequence-loop-index l = l.parts ≡ l.fn.parts

abbrev pub invariant-push_rest_of_sum-loop-index : goal.invariant-push_rest_of_sum-loop-index
invariant-push_rest_of_sum-loop-index l = l.parts ≡ l.fn.parts
