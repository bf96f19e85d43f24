-- The bytes so far are those of the items so far.
use Rattle.std.proofs.Common.{◌≡◌, ◌++◌, take}
use Rattle.std.specs.List.{flat_map}
use Rattle.rbg_questions.specs.Packing.{in_four}
use Rattle.rbg_questions.proofs.packing_writer.put_values.Given as goal

abbrev pub invariant-loop-value : goal.invariant-loop-value
invariant-loop-value l = l.out.items ≡ l.fn.out.items ++ flat_map in_four (take l.value-index l.values)
