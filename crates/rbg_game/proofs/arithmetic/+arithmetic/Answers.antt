use Rattle.std.proofs.Common.{rules, ◌≡◌, ◌+◌, sym, subst, refl, map, get_or, true}
use Rattle.rbg_grammar.specs.declared.expression.Expression.{the_lemmas}
use Rattle.rbg_grammar.proofs.Common.{SpeltExpression, no_operands, operands_after, expression_of, operand_of, is_formed_expression}
use Rattle.rbg_rules.specs.Meaning.{arithmetic_of}
use Rattle.rbg_game.proofs.NumberingCommon.{Memory, names_of, HasArithmeticFault, arithmetic_memory}
use Rattle.rbg_base.proofs.Errors.{passed_on}
use Rattle.rbg_game.proofs.ArithmeticLemmas.{fault_of_operand, one_operand, is_chain, operands_formed, is_number, is_name, negated_formed, fault_of_negated, negated_made, item_after, take_first, chain_step, chain_made, combines_operand}
use Rattle.rbg_game.proofs.arithmetic.+arithmetic.Goals as goal

pub number_expression-number_expression-requires : goal.number_expression-number_expression-requires
number_expression-number_expression-requires t c =
    (search (rules, the_lemmas), (negated_formed c.args.expression.now c.deref.result.now c.in-Negated.operand c.in-Negated.is c.deref.ensures c.requires.formed, c.requires.limits))

pub number_expression-returns-in_err-operand-in-Negated-clause-fault : goal.number_expression-returns-in_err-operand-in-Negated-clause-fault
number_expression-returns-in_err-operand-in-Negated-clause-fault t c =
    passed_on c.from_residual.result c.in_err-operand-in-Negated.field-0.0 (HasArithmeticFault (names_of c.args.names.now) (expression_of c.args.expression.now)) c.from_residual.ensures.1
    (fault_of_negated c.args.expression.now c.deref.result.now c.in-Negated.operand c.in-Negated.is c.deref.ensures (names_of c.args.names.now) c.in_err-operand-in-Negated.field-0.0 c.in_err-operand-in-Negated.ensures.fault)

pub number_expression-returns-in_err-new-in-Negated-clause-fault : goal.number_expression-returns-in_err-new-in-Negated-clause-fault
number_expression-returns-in_err-new-in-Negated-clause-fault t c =
    passed_on c.from_residual-in_err-new-in-Negated.result Memory (HasArithmeticFault (names_of c.args.names.now) (expression_of c.args.expression.now)) c.from_residual-in_err-new-in-Negated.ensures.1 arithmetic_memory

pub number_expression-number_operands-requires : goal.number_expression-number_operands-requires
number_expression-number_operands-requires t c =
    let parts = operands_formed c.args.expression.now c.in-Chain.operands c.deref-in-Chain.result.now c.in-Chain.is c.deref-in-Chain.ensures.value c.requires.formed in
    (search (rules, the_lemmas), (parts.0, (parts.1, c.requires.limits)))

pub number_expression-returns-in-Number-clause-value : goal.number_expression-returns-in-Number-clause-value
number_expression-returns-in-Number-clause-value t c = rw (is_number c.args.expression.now c.in-Number.number c.in-Number.is) (c.number_number.ensures.value (names_of c.args.names.now))

pub number_expression-returns-in-Number-clause-fault : goal.number_expression-returns-in-Number-clause-fault
number_expression-returns-in-Number-clause-fault t c = rw (is_number c.args.expression.now c.in-Number.number c.in-Number.is) (c.number_number.ensures.fault (names_of c.args.names.now))

pub number_expression-returns-in-Name-clause-value : goal.number_expression-returns-in-Name-clause-value
number_expression-returns-in-Name-clause-value t c = rw (is_name c.args.expression.now c.in-Name.name c.in-Name.is) c.number_name.ensures.value

pub number_expression-returns-in-Name-clause-fault : goal.number_expression-returns-in-Name-clause-fault
number_expression-returns-in-Name-clause-fault t c = rw (is_name c.args.expression.now c.in-Name.name c.in-Name.is) c.number_name.ensures.fault

pub number_expression-returns-in_ok-new-in-Negated-clause-value : goal.number_expression-returns-in_ok-new-in-Negated-clause-value
number_expression-returns-in_ok-new-in-Negated-clause-value t c =
    negated_made c.args.expression.now c.deref.result.now c.in-Negated.operand c.in-Negated.is c.deref.ensures (names_of c.args.names.now) c.in_ok-operand-in-Negated.operand c.in_ok-new-in-Negated.field-0 c.in_ok-new-in-Negated.ensures.ok c.in_ok-operand-in-Negated.ensures.value

pub number_expression-returns-in-Chain-clause-value : goal.number_expression-returns-in-Chain-clause-value
number_expression-returns-in-Chain-clause-value t c = rw (is_chain c.args.expression.now c.in-Chain.operands c.deref-in-Chain.result.now c.in-Chain.is c.deref-in-Chain.ensures.value) c.number_operands.ensures.value

pub number_expression-returns-in-Chain-clause-fault : goal.number_expression-returns-in-Chain-clause-fault
number_expression-returns-in-Chain-clause-fault t c = rw (is_chain c.args.expression.now c.in-Chain.operands c.deref-in-Chain.result.now c.in-Chain.is c.deref-in-Chain.ensures.value) c.number_operands.ensures.fault

pub number_operands-returns-in_err-first-clause-fault : goal.number_operands-returns-in_err-first-clause-fault
number_operands-returns-in_err-first-clause-fault t c =
    passed_on c.from_residual.result c.in_err-first.field-0.0 (HasArithmeticFault (names_of c.args.names.now) (SpeltExpression.chain (operands_after no_operands (map operand_of c.args.operands.now)))) c.from_residual.ensures.1
    (fault_of_operand (names_of c.args.names.now) c.args.operands.now 0 (get_or c.args.operands.now 0 c.index-operands-0.result) c.index-operands-0.result c.in_err-first.field-0.0 c.requires.some refl c.in_err-first.ensures.fault)

pub number_operands-returns-in_err-rest-clause-fault : goal.number_operands-returns-in_err-rest-clause-fault
number_operands-returns-in_err-rest-clause-fault t c =
    passed_on c.from_residual-in_err-rest.result Memory (HasArithmeticFault (names_of c.args.names.now) (SpeltExpression.chain (operands_after no_operands (map operand_of c.args.operands.now)))) c.from_residual-in_err-rest.ensures.1 arithmetic_memory

pub number_operands-loop-operand-init : goal.number_operands-loop-operand-init
number_operands-loop-operand-init t c =
    rw (c.in_ok-rest.ensures.items, take_first operand_of c.args.operands.now (get_or c.args.operands.now 0 c.index-operands-0.result) c.index-operands-0.result c.requires.some refl) (one_operand (names_of c.args.names.now) (get_or c.args.operands.now 0 c.index-operands-0.result) (arithmetic_of c.in_ok-first.first) c.in_ok-first.ensures.value)

pub number_operands-number_operand-requires : goal.number_operands-number_operand-requires
number_operands-number_operand-requires t c =
    let item = item_after c.args.operands.now c.loop-operand.operand-index c.operand-item.result c.loop-operand-test.true c.operand-item.is in
    let at = item.1 in
    let within = item.0 in
    (search (rules, the_lemmas, at, within), (subst (λ f. is_formed_expression (expression_of f.value) ≡ true) (sym at) (c.requires.formed (c.loop-operand.operand-index + 1) c.operand-item.result within), c.requires.limits))

pub number_operands-returns-in_err-number_operand-clause-fault : goal.number_operands-returns-in_err-number_operand-clause-fault
number_operands-returns-in_err-number_operand-clause-fault t c =
    let item = item_after c.args.operands.now c.loop-operand.operand-index c.operand-item.result c.loop-operand-test.true c.operand-item.is in
    passed_on c.from_residual-in_err-number_operand.result c.in_err-number_operand.field-0.0 (HasArithmeticFault (names_of c.args.names.now) (SpeltExpression.chain (operands_after no_operands (map operand_of c.args.operands.now)))) c.from_residual-in_err-number_operand.ensures.1
    (fault_of_operand (names_of c.args.names.now) c.args.operands.now (c.loop-operand.operand-index + 1) c.operand-item.result c.operand-item.result c.in_err-number_operand.field-0.0 item.0 item.1 c.in_err-number_operand.ensures.fault)

pub number_operands-returns-in_err-push-clause-fault : goal.number_operands-returns-in_err-push-clause-fault
number_operands-returns-in_err-push-clause-fault t c =
    passed_on c.from_residual-in_err-push.result Memory (HasArithmeticFault (names_of c.args.names.now) (SpeltExpression.chain (operands_after no_operands (map operand_of c.args.operands.now)))) c.from_residual-in_err-push.ensures.1 arithmetic_memory

pub number_operands-loop-operand-preserved : goal.number_operands-loop-operand-preserved
number_operands-loop-operand-preserved t c =
    rw c.in_ok-push.ensures.items
    (chain_step (names_of c.args.names.now) c.args.operands.now c.loop-operand.operand-index c.operand-item.result _ c.loop-operand.rest.items c.in_ok-number_operand.field-0
    c.loop-operand-test.true c.operand-item.is c.loop-operand.invariant c.in_ok-number_operand.ensures.value)

pub number_operands-returns-in_err-new-clause-fault : goal.number_operands-returns-in_err-new-clause-fault
number_operands-returns-in_err-new-clause-fault t c =
    passed_on c.from_residual-in_err-new.result Memory (HasArithmeticFault (names_of c.args.names.now) (SpeltExpression.chain (operands_after no_operands (map operand_of c.args.operands.now)))) c.from_residual-in_err-new.ensures.1 arithmetic_memory

pub number_operands-returns-clause-value : goal.number_operands-returns-clause-value
number_operands-returns-clause-value t c =
    chain_made (names_of c.args.names.now) c.args.operands.now c.loop-operand.operand-index _ c.in_ok-new.field-0 c.loop-operand.rest c.requires.some c.loop-operand-test.false c.in_ok-new.ensures.ok c.loop-operand.invariant

pub number_operand-returns-clause-value : goal.number_operand-returns-clause-value
number_operand-returns-clause-value t c =
    combines_operand (names_of c.args.names.now) c.args.operand.now c.in_ok-number_expression.field-0 c.in_ok-number_expression.ensures.value
