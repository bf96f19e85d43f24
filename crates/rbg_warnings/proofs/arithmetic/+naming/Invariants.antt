-- No operand before this one names the variable.
use Rattle.std.proofs.Common.{◌≡◌, false, take}
use Rattle.rbg_warnings.specs.internal.Walking.{operands_name}
use Rattle.rbg_warnings.proofs.arithmetic.+naming.Given as goal

abbrev pub invariant-some_operand_names-loop-operation : goal.invariant-some_operand_names-loop-operation
invariant-some_operand_names-loop-operation l = operands_name l.variable (take l.operation-index l.operations) ≡ false
