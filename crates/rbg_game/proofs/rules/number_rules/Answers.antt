use Rattle.std.proofs.Common.{[], length, subst}
use Rattle.rbg_grammar.specs.Views.{rule_of}
use Rattle.rbg_rules.specs.Meaning.{most_nested_patterns}
use Rattle.rbg_game.proofs.NumberingCommon.{names_of, HasRuleFault, AddsRule, HasFaultFrom}
use Rattle.rbg_base.proofs.Errors.{passed_on}
use Rattle.rbg_game.proofs.StepFaults.{fault_of_rules}
use Rattle.rbg_game.proofs.RuleLaws.{rules_made, one_each}
use Rattle.rbg_game.proofs.rules.number_rules.Goals as goal

pub returns-in_err-tree-clause-fault : goal.returns-in_err-tree-clause-fault
returns-in_err-tree-clause-fault c =
    let rule = rule_of c.args.rule.now in
    let error = c.in_err-tree.field-0.0 in
    passed_on c.from_residual.result error (HasRuleFault (names_of c.args.names.now) rule) c.from_residual.ensures.1
    (fault_of_rules (names_of c.args.names.now) rule error (subst (λ old. HasFaultFrom (names_of c.args.names.now) most_nested_patterns (length old) rule error) c.new-actions.ensures.items c.in_err-tree.ensures.fault))

pub returns-clause-rules : goal.returns-clause-rules
returns-clause-rules c =
    let rule = rule_of c.args.rule.now in
    let new = c.number_rule.new.actions.items in
    let adds : AddsRule (names_of c.args.names.now) most_nested_patterns rule [] new c.in_ok-tree.tree = subst (λ old. AddsRule (names_of c.args.names.now) most_nested_patterns rule old new c.in_ok-tree.tree) c.new-actions.ensures.items c.in_ok-tree.ensures.rule in
    record {
      by_numbers = rules_made (names_of c.args.names.now) rule new c.in_ok-tree.tree c.requires.formed adds;
      count = one_each (names_of c.args.names.now) rule new c.in_ok-tree.tree c.requires.formed adds;
    }
