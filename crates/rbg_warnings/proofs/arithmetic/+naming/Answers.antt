-- A chain names what its first part or one of its operands names.
use Rattle.std.proofs.Common.{refl, sym, ◌∙◌, arith}
use Rattle.rbg_warnings.specs.internal.Walking.{operands_name}
use Rattle.rbg_warnings.proofs.Names.{chain_first, chain_rest, operand_found, operands_more}
use Rattle.rbg_warnings.proofs.arithmetic.+naming.Goals as goal

pub names_variable-returns-then-names_variable : goal.names_variable-returns-then-names_variable
names_variable-returns-then-names_variable t c =
    chain_first _ _ c.in-Chain.first c.in-Chain.rest c.in-Chain.is _ c.deref-in-Chain.ensures _ c.names_variable-in-Chain.ensures (cc)

pub names_variable-returns-else-names_variable : goal.names_variable-returns-else-names_variable
names_variable-returns-else-names_variable t c =
    chain_rest _ _ c.in-Chain.first c.in-Chain.rest c.in-Chain.is _ c.deref-in-Chain.ensures _ c.names_variable-in-Chain.ensures (cc) _ c.deref-else-names_variable.ensures.value _ c.some_operand_names.ensures

pub some_operand_names-loop-operation-init : goal.some_operand_names-loop-operation-init
unfolding operands_name
some_operand_names-loop-operation-init t c = refl

pub some_operand_names-returns-then-names_variable : goal.some_operand_names-returns-then-names_variable
some_operand_names-returns-then-names_variable t c =
    sym (operand_found _ _ c.loop-operation.operation-index c.operation-item.result (omega arith) c.operation-item.is (sym c.names_variable.ensures ∙ (cc)))

pub some_operand_names-loop-operation-preserved : goal.some_operand_names-loop-operation-preserved
some_operand_names-loop-operation-preserved t c =
    operands_more _ _ c.loop-operation.operation-index c.operation-item.result (omega arith) c.operation-item.is c.loop-operation.invariant (sym c.names_variable.ensures ∙ (cc))
