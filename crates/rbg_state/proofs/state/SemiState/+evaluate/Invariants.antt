-- The value is what the operations so far make.
use Rattle.std.proofs.Common.{◌≡◌, Some, take}
use Rattle.rbg_state.specs.Evaluation.{value_after}
use Rattle.rbg_state.proofs.state.SemiState.+evaluate.Given as goal

abbrev pub invariant-continued-loop-operation : goal.invariant-continued-loop-operation
invariant-continued-loop-operation l = Some l.value ≡ value_after l.self.state (Some l.first) (take l.operation-index l.operations)
