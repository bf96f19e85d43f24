use Rattle.std.proofs.Common.{length, arith}
use Rattle.rbg_grammar.specs.Tree.{SpeltRule}
use Rattle.rbg_grammar.specs.Views.{action_of as spelt_action_of}
use Rattle.rbg_game.proofs.NumberingCommon.{Memory, names_of, HasFaultFrom, from_positions, from_memory}
use Rattle.rbg_base.proofs.Errors.{passed_on}
use Rattle.rbg_game.proofs.ActionLemmas.{counts_one, action_fault, action_added}
use Rattle.rbg_game.proofs.actions.add_action.Goals as goal

pub returns-then-len-eq-MAX_POSITIONS-clause-fault : goal.returns-then-len-eq-MAX_POSITIONS-clause-fault
returns-then-len-eq-MAX_POSITIONS-clause-fault c =
    let one = counts_one (spelt_action_of c.args.action.now) c.requires.plain in
    from_positions (omega arith)

pub returns-in_err-number_action-clause-fault : goal.returns-in_err-number_action-clause-fault
returns-in_err-number_action-clause-fault c =
    passed_on c.from_residual.result c.in_err-number_action.field-0.0 (HasFaultFrom (names_of c.args.names.now) c.args.patterns_left (length c.args.actions.now.items) (SpeltRule.act (spelt_action_of c.args.action.now))) c.from_residual.ensures.1
    (action_fault (names_of c.args.names.now) c.args.patterns_left (length c.args.actions.now.items) (spelt_action_of c.args.action.now) c.in_err-number_action.field-0.0 c.in_err-number_action.ensures.fault)

pub returns-in_err-push-clause-fault : goal.returns-in_err-push-clause-fault
returns-in_err-push-clause-fault c =
    passed_on c.from_residual-in_err-push.result Memory (HasFaultFrom (names_of c.args.names.now) c.args.patterns_left (length c.args.actions.now.items) (SpeltRule.act (spelt_action_of c.args.action.now))) c.from_residual-in_err-push.ensures.1 from_memory

pub returns-clause-added : goal.returns-clause-added
returns-clause-added c =
    action_added (names_of c.args.names.now) c.args.patterns_left (spelt_action_of c.args.action.now) c.args.actions.now.items c.push.new.self.items c.in_ok-number_action.field-0 c.len-2.result c.requires.plain c.in_ok-number_action.ensures.action c.in_ok-push.ensures.items (omega arith) (omega arith)
