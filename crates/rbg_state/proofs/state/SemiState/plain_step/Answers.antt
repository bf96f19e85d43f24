use Rattle.std.proofs.Common.{Some, arith}
use Rattle.std.proofs.lemmas.Int.{to_z-of_z}
use Rattle.rbg_state.proofs.Chains.{value_after_one, some_value}
use Rattle.rbg_state.proofs.state.SemiState.plain_step.Goals as goal

pub returns-in_ok-operand-in-len1 : goal.returns-in_ok-operand-in-len1
returns-in_ok-operand-in-len1 c =
    let one = value_after_one c.args.self.now.state (Some c.args.first) c.args.operations.now c.operation-item.result (omega arith) c.operation-item.is in
    let operand = c.in_ok-operand-in-len1.ensures in
    let value = c.operate.ensures in
    some_value c.operate.result _ (grind (arith, to_z-of_z))
