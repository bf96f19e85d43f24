use Rattle.rbg_base.proofs.Common.{◌+◌, Some, length, refl, arith, rules, get_or_from_slice_get}
use Rattle.std.proofs.lemmas.Int.{to_z-of_z}
use Rattle.rbg_rules.specs.declared.arithmetic.Arithmetic.TheViews.{the_lemmas}
use Rattle.rbg_rules.proofs.Bridge.{arithmetic_of-Variable}
use Rattle.rbg_state.specs.Evaluation.{value_after}
use Rattle.rbg_state.proofs.Fits.{fits-of_below}
use Rattle.rbg_state.proofs.Reading.{reads_of-Negated, reads_of-Chain, operand_reads}
use Rattle.rbg_state.proofs.Chains.{value_after-None, no_value_after, value_after_more, value_of-Chain}
use Rattle.rbg_state.proofs.state.SemiState.+evaluate.Goals as goal

pub evaluate-evaluate-requires : goal.evaluate-evaluate-requires
evaluate-evaluate-requires t c = (search (rules, the_lemmas), reads_of-Negated _ _ _ _ c.requires c.in-Negated.is c.deref.ensures)

pub evaluate-returns-in-Variable : goal.evaluate-returns-in-Variable
evaluate-returns-in-Variable t c =
    let read = get_or_from_slice_get c.args.self.now.state.values c.in-Variable.variable c.value.result 0 c.value.ensures in
    let fits = fits-of_below c.value.result (omega arith) in
    rw (c.in-Variable.is, arithmetic_of-Variable) (grind (arith, to_z-of_z))

pub evaluate-continued-requires : goal.evaluate-continued-requires
evaluate-continued-requires t c =
    let reads = reads_of-Chain (length c.args.self.now.state.values) c.args.expression.now c.in-Chain.first c.in-Chain.rest c.requires c.in-Chain.is in
    (search (rules, the_lemmas), rw c.deref-in-Chain-2.ensures.value reads.1)

pub evaluate-evaluated-requires : goal.evaluate-evaluated-requires
evaluate-evaluated-requires t c =
    let reads = reads_of-Chain (length c.args.self.now.state.values) c.args.expression.now c.in-Chain.first c.in-Chain.rest c.requires c.in-Chain.is in
    (search (rules, the_lemmas), rw c.deref-in-Chain.ensures reads.0)

pub evaluate-returns-in_err-evaluated-in-Chain : goal.evaluate-returns-in_err-evaluated-in-Chain
evaluate-returns-in_err-evaluated-in-Chain t c =
    let value = value_of-Chain c.args.self.now.state c.args.expression.now c.in-Chain.first c.in-Chain.rest c.in-Chain.is in
    let none = value_after-None c.args.self.now.state c.in-Chain.rest.items in
    let no_first = c.in_err-evaluated-in-Chain.ensures in
    grind arith

pub evaluate-returns-in_ok-evaluated-in-Chain : goal.evaluate-returns-in_ok-evaluated-in-Chain
evaluate-returns-in_ok-evaluated-in-Chain t c =
    let value = value_of-Chain c.args.self.now.state c.args.expression.now c.in-Chain.first c.in-Chain.rest c.in-Chain.is in
    let first = c.in_ok-evaluated-in-Chain.ensures in
    grind (arith, to_z-of_z)

pub continued-loop-operation-init : goal.continued-loop-operation-init
unfolding value_after
continued-loop-operation-init t c = refl

pub continued-evaluated-requires : goal.continued-evaluated-requires
continued-evaluated-requires t c = (search (rules, the_lemmas), operand_reads (length c.args.self.now.state.values) c.args.operations.now c.loop-operation.operation-index c.operation-item.result c.requires (omega arith) c.operation-item.is)

pub continued-returns-in_err-operand : goal.continued-returns-in_err-operand
continued-returns-in_err-operand t c =
    let more = value_after_more c.args.self.now.state (Some c.args.first) c.args.operations.now c.loop-operation.operation-index c.operation-item.result (omega arith) c.operation-item.is in
    let none = no_value_after c.args.self.now.state (Some c.args.first) c.args.operations.now (c.loop-operation.operation-index + 1) in
    let no_operand = c.in_err-operand.ensures in
    grind (arith, to_z-of_z)

pub continued-returns-in_err-value : goal.continued-returns-in_err-value
continued-returns-in_err-value t c =
    let more = value_after_more c.args.self.now.state (Some c.args.first) c.args.operations.now c.loop-operation.operation-index c.operation-item.result (omega arith) c.operation-item.is in
    let none = no_value_after c.args.self.now.state (Some c.args.first) c.args.operations.now (c.loop-operation.operation-index + 1) in
    let operand = c.in_ok-operand.ensures in
    let no_value = c.in_err-value.ensures in
    grind (arith, to_z-of_z)

pub continued-loop-operation-preserved : goal.continued-loop-operation-preserved
continued-loop-operation-preserved t c =
    let more = value_after_more c.args.self.now.state (Some c.args.first) c.args.operations.now c.loop-operation.operation-index c.operation-item.result (omega arith) c.operation-item.is in
    let operand = c.in_ok-operand.ensures in
    let value = c.in_ok-value.ensures in
    grind (arith, to_z-of_z)
