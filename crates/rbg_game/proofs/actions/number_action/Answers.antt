use Rattle.std.proofs.Common.{◌∙◌, ap, inl, inr, arith}
use Rattle.rbg_grammar.specs.Views.{action_of as spelt_action_of}
use Rattle.rbg_grammar.proofs.Trees.{action_of-PositivePattern, action_of-NegativePattern}
use Rattle.rbg_game.proofs.NumberingCommon.{names_of, is_spelt_pattern, HasActionFault}
use Rattle.rbg_base.proofs.Errors.{passed_on}
use Rattle.rbg_game.proofs.ActionLemmas.{shift_fault, off_fault, on_fault, variable_fault, value_fault, left_fault, right_fault, switch_fault, switch_inside, value_formed, sides_formed, shift_made, off_made, on_made, assign_made, compare_made, switch_made}
use Rattle.rbg_game.proofs.actions.number_action.Goals as goal

pub returns-in_err-find-in-Shift-clause-fault : goal.returns-in_err-find-in-Shift-clause-fault
returns-in_err-find-in-Shift-clause-fault c =
    passed_on c.from_residual.result c.in_err-find-in-Shift.field-0.0 (HasActionFault (names_of c.args.names.now) c.args.patterns_left (spelt_action_of c.args.action.now)) c.from_residual.ensures.1
    (shift_fault (names_of c.args.names.now) c.args.patterns_left c.args.action.now c.in_err-find-in-Shift.field-0.0 c.in-Shift.direction c.in-Shift.is c.in_err-find-in-Shift.ensures.fault)

pub returns-in_err-find_all-in-On-clause-fault : goal.returns-in_err-find_all-in-On-clause-fault
returns-in_err-find_all-in-On-clause-fault c =
    passed_on c.from_residual-in_err-find_all-in-On.result c.in_err-find_all-in-On.field-0.0 (HasActionFault (names_of c.args.names.now) c.args.patterns_left (spelt_action_of c.args.action.now)) c.from_residual-in_err-find_all-in-On.ensures.1
    (on_fault (names_of c.args.names.now) c.args.patterns_left c.args.action.now c.in_err-find_all-in-On.field-0.0 c.in-On.pieces c.deref.result.now c.in-On.is c.deref.ensures.value c.in_err-find_all-in-On.ensures.fault)

pub returns-in_err-find-in-Off-clause-fault : goal.returns-in_err-find-in-Off-clause-fault
returns-in_err-find-in-Off-clause-fault c =
    passed_on c.from_residual-in_err-find-in-Off.result c.in_err-find-in-Off.field-0.0 (HasActionFault (names_of c.args.names.now) c.args.patterns_left (spelt_action_of c.args.action.now)) c.from_residual-in_err-find-in-Off.ensures.1
    (off_fault (names_of c.args.names.now) c.args.patterns_left c.args.action.now c.in_err-find-in-Off.field-0.0 c.in-Off.piece c.in-Off.is c.in_err-find-in-Off.ensures.fault)

pub returns-in_err-find-in-Assign-clause-fault : goal.returns-in_err-find-in-Assign-clause-fault
returns-in_err-find-in-Assign-clause-fault c =
    passed_on c.from_residual-in_err-find-in-Assign.result c.in_err-find-in-Assign.field-0.0 (HasActionFault (names_of c.args.names.now) c.args.patterns_left (spelt_action_of c.args.action.now)) c.from_residual-in_err-find-in-Assign.ensures.1
    (variable_fault (names_of c.args.names.now) c.args.patterns_left c.args.action.now c.in_err-find-in-Assign.field-0.0 c.in-Assign.variable c.in-Assign.value c.in-Assign.is c.in_err-find-in-Assign.ensures.fault)

pub returns-in_err-number_expression-in-Assign-clause-fault : goal.returns-in_err-number_expression-in-Assign-clause-fault
returns-in_err-number_expression-in-Assign-clause-fault c =
    passed_on c.from_residual-in_err-number_expression-in-Assign.result c.in_err-number_expression-in-Assign.field-0.0 (HasActionFault (names_of c.args.names.now) c.args.patterns_left (spelt_action_of c.args.action.now)) c.from_residual-in_err-number_expression-in-Assign.ensures.1
    (value_fault (names_of c.args.names.now) c.args.patterns_left c.args.action.now c.in_err-number_expression-in-Assign.field-0.0 c.in-Assign.variable c.in-Assign.value c.in-Assign.is c.in_err-number_expression-in-Assign.ensures.fault)

pub returns-in_err-number_expression-in-Compare-clause-fault : goal.returns-in_err-number_expression-in-Compare-clause-fault
returns-in_err-number_expression-in-Compare-clause-fault c =
    passed_on c.from_residual-in_err-number_expression-in-Compare.result c.in_err-number_expression-in-Compare.field-0.0 (HasActionFault (names_of c.args.names.now) c.args.patterns_left (spelt_action_of c.args.action.now)) c.from_residual-in_err-number_expression-in-Compare.ensures.1
    (left_fault (names_of c.args.names.now) c.args.patterns_left c.args.action.now c.in_err-number_expression-in-Compare.field-0.0 c.in-Compare.left c.in-Compare.relation c.in-Compare.right c.in-Compare.is c.in_err-number_expression-in-Compare.ensures.fault)

pub returns-in_err-number_expression-in-Compare-2-clause-fault : goal.returns-in_err-number_expression-in-Compare-2-clause-fault
returns-in_err-number_expression-in-Compare-2-clause-fault c =
    passed_on c.from_residual-in_err-number_expression-in-Compare-2.result c.in_err-number_expression-in-Compare-2.field-0.0 (HasActionFault (names_of c.args.names.now) c.args.patterns_left (spelt_action_of c.args.action.now)) c.from_residual-in_err-number_expression-in-Compare-2.ensures.1
    (right_fault (names_of c.args.names.now) c.args.patterns_left c.args.action.now c.in_err-number_expression-in-Compare-2.field-0.0 c.in-Compare.left c.in-Compare.relation c.in-Compare.right c.in-Compare.is c.in_err-number_expression-in-Compare-2.ensures.fault)

pub returns-in_err-number_of_player-in-Switch-clause-fault : goal.returns-in_err-number_of_player-in-Switch-clause-fault
returns-in_err-number_of_player-in-Switch-clause-fault c =
    passed_on c.from_residual-in_err-number_of_player-in-Switch.result c.in_err-number_of_player-in-Switch.field-0.0 (HasActionFault (names_of c.args.names.now) c.args.patterns_left (spelt_action_of c.args.action.now)) c.from_residual-in_err-number_of_player-in-Switch.ensures.1
    (switch_fault (names_of c.args.names.now) c.args.patterns_left c.args.action.now c.in_err-number_of_player-in-Switch.field-0.0 c.in-Switch.at c.in-Switch.player c.in-Switch.is c.in_err-number_of_player-in-Switch.ensures.fault)

pub number_expression-requires-clause-formed : goal.number_expression-requires-clause-formed
number_expression-requires-clause-formed c = value_formed c.args.action.now c.in-Assign.variable c.in-Assign.value c.in-Assign.is c.requires.formed

pub number_expression-requires-in-Compare-clause-formed : goal.number_expression-requires-in-Compare-clause-formed
number_expression-requires-in-Compare-clause-formed c = (sides_formed c.args.action.now c.in-Compare.left c.in-Compare.relation c.in-Compare.right c.in-Compare.is c.requires.formed).0

pub number_expression-requires-in-Compare-2-clause-formed : goal.number_expression-requires-in-Compare-2-clause-formed
number_expression-requires-in-Compare-2-clause-formed c = (sides_formed c.args.action.now c.in-Compare.left c.in-Compare.relation c.in-Compare.right c.in-Compare.is c.requires.formed).1

pub returns-then-patterns_left-lt-MAX_NESTED_PATTERNS-clause-fault : goal.returns-then-patterns_left-lt-MAX_NESTED_PATTERNS-clause-fault
returns-then-patterns_left-lt-MAX_NESTED_PATTERNS-clause-fault c = switch_inside (names_of c.args.names.now) c.args.patterns_left c.args.action.now c.in-Switch.at c.in-Switch.player c.in-Switch.is (omega arith)

pub unreachable-requires : goal.unreachable-requires
unreachable-requires c =
    elim c.in-PositivePattern.is [
      | inl h ↦ cc (ap is_spelt_pattern (ap spelt_action_of h.2 ∙ action_of-PositivePattern h.0 h.1), c.requires.plain)
      | inr h ↦ cc (ap is_spelt_pattern (ap spelt_action_of h.2 ∙ action_of-NegativePattern h.0 h.1), c.requires.plain)
    ]

pub returns-in_ok-find-in-Shift-clause-action : goal.returns-in_ok-find-in-Shift-clause-action
returns-in_ok-find-in-Shift-clause-action c = shift_made (names_of c.args.names.now) c.args.patterns_left c.args.action.now c.in-Shift.direction c.in_ok-find-in-Shift.field-0 c.in-Shift.is c.in_ok-find-in-Shift.ensures.number

pub returns-in_ok-find_all-in-On-clause-action : goal.returns-in_ok-find_all-in-On-clause-action
returns-in_ok-find_all-in-On-clause-action c = on_made (names_of c.args.names.now) c.args.patterns_left c.args.action.now c.in-On.pieces c.deref.result.now c.in_ok-find_all-in-On.field-0 c.in-On.is c.deref.ensures.value c.in_ok-find_all-in-On.ensures.numbers

pub returns-in_ok-find-in-Off-clause-action : goal.returns-in_ok-find-in-Off-clause-action
returns-in_ok-find-in-Off-clause-action c = off_made (names_of c.args.names.now) c.args.patterns_left c.args.action.now c.in-Off.piece c.in_ok-find-in-Off.field-0 c.in-Off.is c.in_ok-find-in-Off.ensures.number

pub returns-in_ok-number_expression-in-Assign-clause-action : goal.returns-in_ok-number_expression-in-Assign-clause-action
returns-in_ok-number_expression-in-Assign-clause-action c =
    assign_made (names_of c.args.names.now) c.args.patterns_left c.args.action.now c.in-Assign.variable c.in-Assign.value c.in_ok-find-in-Assign.field-0 c.in_ok-number_expression-in-Assign.field-0 c.in-Assign.is c.in_ok-find-in-Assign.ensures.number c.in_ok-number_expression-in-Assign.ensures.value

pub returns-in_ok-number_expression-in-Compare-2-clause-action : goal.returns-in_ok-number_expression-in-Compare-2-clause-action
returns-in_ok-number_expression-in-Compare-2-clause-action c =
    compare_made (names_of c.args.names.now) c.args.patterns_left c.args.action.now c.in-Compare.left c.in-Compare.relation c.in-Compare.right c.in_ok-number_expression-in-Compare.field-0 c.in_ok-number_expression-in-Compare-2.field-0 c.in-Compare.is c.in_ok-number_expression-in-Compare.ensures.value c.in_ok-number_expression-in-Compare-2.ensures.value

pub returns-in_ok-number_of_player-in-Switch-clause-action : goal.returns-in_ok-number_of_player-in-Switch-clause-action
returns-in_ok-number_of_player-in-Switch-clause-action c =
    switch_made (names_of c.args.names.now) c.args.patterns_left c.args.action.now c.in-Switch.at c.in-Switch.player c.in_ok-number_of_player-in-Switch.field-0 c.in-Switch.is (omega arith) c.in_ok-number_of_player-in-Switch.ensures.number
