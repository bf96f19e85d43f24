use Rattle.std.proofs.Common.{rules, ◌∙◌, ap, sym, inl, inr, refl, map, length, arith}
use Rattle.rbg_grammar.proofs.Common.{is_formed, SpeltRule, no_rules, rules_after, rule_of, action_of}
use Rattle.rbg_grammar.specs.declared.rule.ParsedRule.{the_lemmas}
use Rattle.rbg_grammar.proofs.Trees.{action_of-Shift, action_of-On, action_of-Off, action_of-Assign, action_of-Compare, action_of-Switch}
use Rattle.rbg_rules.specs.declared.rule.Action.TheVariants.{Positive, Negative}
use Rattle.rbg_game.proofs.NumberingCommon.{Memory, names_of, is_spelt_pattern, HasFaultFrom, from_memory}
use Rattle.rbg_base.proofs.Errors.{passed_on}
use Rattle.rbg_game.proofs.StepLemmas.{no_parts, sequence_added, choice_added, star_added, pattern_added, spelt_pattern_of}
use Rattle.rbg_game.proofs.StepFaults.{fault_in_star, fault_in_choice, opening_fault}
use Rattle.rbg_game.proofs.RuleNumbering.{is_act, is_then, is_or, is_star, positive_opens, negative_opens, opens_formed, then_formed, or_formed, part_formed, next_part, fault_of_next, all_parts, fault_of_inside}
use Rattle.rbg_game.proofs.rules.+numbering.Goals as goal

pub number_act-returns-in_err-position-in-PositivePattern-clause-fault : goal.number_act-returns-in_err-position-in-PositivePattern-clause-fault
number_act-returns-in_err-position-in-PositivePattern-clause-fault t c =
    passed_on c.from_residual.result c.in_err-position-in-PositivePattern.field-0.0 (HasFaultFrom (names_of c.args.names.now) c.args.patterns_left (length c.args.actions.now.items) (SpeltRule.act (action_of c.args.action.now))) c.from_residual.ensures.1
    (opening_fault (names_of c.args.names.now) c.args.patterns_left (length c.args.actions.now.items) (action_of c.args.action.now) c.in-PositivePattern.at (rule_of c.in-PositivePattern.rule.value) c.in_err-position-in-PositivePattern.field-0.0 (spelt_pattern_of (action_of c.args.action.now) c.in-PositivePattern.at (rule_of c.in-PositivePattern.rule.value) Positive (positive_opens c.args.action.now c.in-PositivePattern.at c.in-PositivePattern.rule c.in-PositivePattern.rule.value c.in-PositivePattern.is refl)) c.in_err-position-in-PositivePattern.ensures.fault)

pub number_act-number_rule-requires : goal.number_act-number_rule-requires
number_act-number_rule-requires t c =
    let opened = c.in_ok-position-in-PositivePattern.ensures.opened in
    (search (rules, the_lemmas), (opens_formed (action_of c.args.action.now) c.in-PositivePattern.at (rule_of c.deref.result.now) Positive (positive_opens c.args.action.now c.in-PositivePattern.at c.in-PositivePattern.rule c.deref.result.now c.in-PositivePattern.is c.deref.ensures) c.requires.formed, (c.requires.limits, (opened.few, omega arith))))

pub number_act-returns-in_err-inside-in-PositivePattern-clause-fault : goal.number_act-returns-in_err-inside-in-PositivePattern-clause-fault
number_act-returns-in_err-inside-in-PositivePattern-clause-fault t c =
    passed_on c.from_residual-in_err-inside-in-PositivePattern.result c.in_err-inside-in-PositivePattern.field-0.0 (HasFaultFrom (names_of c.args.names.now) c.args.patterns_left (length c.args.actions.now.items) (SpeltRule.act (action_of c.args.action.now))) c.from_residual-in_err-inside-in-PositivePattern.ensures.1
    (fault_of_inside (names_of c.args.names.now) c.args.patterns_left (action_of c.args.action.now) c.in-PositivePattern.at (rule_of c.deref.result.now) Positive c.args.actions.now.items c.open_pattern.new.actions.items c.in_ok-position-in-PositivePattern.position c.in_err-inside-in-PositivePattern.field-0.0 (positive_opens c.args.action.now c.in-PositivePattern.at c.in-PositivePattern.rule c.deref.result.now c.in-PositivePattern.is c.deref.ensures) c.in_ok-position-in-PositivePattern.ensures.opened c.in_err-inside-in-PositivePattern.ensures.fault)

pub number_act-returns-in_err-new-in-PositivePattern-clause-fault : goal.number_act-returns-in_err-new-in-PositivePattern-clause-fault
number_act-returns-in_err-new-in-PositivePattern-clause-fault t c =
    passed_on c.from_residual-in_err-new-in-PositivePattern.result Memory (HasFaultFrom (names_of c.args.names.now) c.args.patterns_left (length c.args.actions.now.items) (SpeltRule.act (action_of c.args.action.now))) c.from_residual-in_err-new-in-PositivePattern.ensures.1 from_memory

pub number_act-returns-in_ok-new-in-PositivePattern-clause-rule : goal.number_act-returns-in_ok-new-in-PositivePattern-clause-rule
number_act-returns-in_ok-new-in-PositivePattern-clause-rule t c =
    pattern_added (names_of c.args.names.now) c.args.patterns_left (action_of c.args.action.now) c.in-PositivePattern.at (rule_of c.deref.result.now) Positive c.args.actions.now.items c.open_pattern.new.actions.items c.number_rule.new.actions.items c.in_ok-position-in-PositivePattern.position c.in_ok-inside-in-PositivePattern.inside c.in_ok-new-in-PositivePattern.field-0 (positive_opens c.args.action.now c.in-PositivePattern.at c.in-PositivePattern.rule c.deref.result.now c.in-PositivePattern.is c.deref.ensures) c.in_ok-position-in-PositivePattern.ensures.opened c.in_ok-inside-in-PositivePattern.ensures.rule c.in_ok-new-in-PositivePattern.ensures.ok

pub number_act-returns-in_err-position-in-NegativePattern-clause-fault : goal.number_act-returns-in_err-position-in-NegativePattern-clause-fault
number_act-returns-in_err-position-in-NegativePattern-clause-fault t c =
    passed_on c.from_residual-in_err-position-in-NegativePattern.result c.in_err-position-in-NegativePattern.field-0.0 (HasFaultFrom (names_of c.args.names.now) c.args.patterns_left (length c.args.actions.now.items) (SpeltRule.act (action_of c.args.action.now))) c.from_residual-in_err-position-in-NegativePattern.ensures.1
    (opening_fault (names_of c.args.names.now) c.args.patterns_left (length c.args.actions.now.items) (action_of c.args.action.now) c.in-NegativePattern.at (rule_of c.in-NegativePattern.rule.value) c.in_err-position-in-NegativePattern.field-0.0 (spelt_pattern_of (action_of c.args.action.now) c.in-NegativePattern.at (rule_of c.in-NegativePattern.rule.value) Negative (negative_opens c.args.action.now c.in-NegativePattern.at c.in-NegativePattern.rule c.in-NegativePattern.rule.value c.in-NegativePattern.is refl)) c.in_err-position-in-NegativePattern.ensures.fault)

pub number_act-number_rule-requires-in-NegativePattern : goal.number_act-number_rule-requires-in-NegativePattern
number_act-number_rule-requires-in-NegativePattern t c =
    let opened = c.in_ok-position-in-NegativePattern.ensures.opened in
    (search (rules, the_lemmas), (opens_formed (action_of c.args.action.now) c.in-NegativePattern.at (rule_of c.deref-in-NegativePattern.result.now) Negative (negative_opens c.args.action.now c.in-NegativePattern.at c.in-NegativePattern.rule c.deref-in-NegativePattern.result.now c.in-NegativePattern.is c.deref-in-NegativePattern.ensures) c.requires.formed, (c.requires.limits, (opened.few, omega arith))))

pub number_act-returns-in_err-inside-in-NegativePattern-clause-fault : goal.number_act-returns-in_err-inside-in-NegativePattern-clause-fault
number_act-returns-in_err-inside-in-NegativePattern-clause-fault t c =
    passed_on c.from_residual-in_err-inside-in-NegativePattern.result c.in_err-inside-in-NegativePattern.field-0.0 (HasFaultFrom (names_of c.args.names.now) c.args.patterns_left (length c.args.actions.now.items) (SpeltRule.act (action_of c.args.action.now))) c.from_residual-in_err-inside-in-NegativePattern.ensures.1
    (fault_of_inside (names_of c.args.names.now) c.args.patterns_left (action_of c.args.action.now) c.in-NegativePattern.at (rule_of c.deref-in-NegativePattern.result.now) Negative c.args.actions.now.items c.open_pattern-in-NegativePattern.new.actions.items c.in_ok-position-in-NegativePattern.position c.in_err-inside-in-NegativePattern.field-0.0 (negative_opens c.args.action.now c.in-NegativePattern.at c.in-NegativePattern.rule c.deref-in-NegativePattern.result.now c.in-NegativePattern.is c.deref-in-NegativePattern.ensures) c.in_ok-position-in-NegativePattern.ensures.opened c.in_err-inside-in-NegativePattern.ensures.fault)

pub number_act-returns-in_err-new-in-NegativePattern-clause-fault : goal.number_act-returns-in_err-new-in-NegativePattern-clause-fault
number_act-returns-in_err-new-in-NegativePattern-clause-fault t c =
    passed_on c.from_residual-in_err-new-in-NegativePattern.result Memory (HasFaultFrom (names_of c.args.names.now) c.args.patterns_left (length c.args.actions.now.items) (SpeltRule.act (action_of c.args.action.now))) c.from_residual-in_err-new-in-NegativePattern.ensures.1 from_memory

pub number_act-returns-in_ok-new-in-NegativePattern-clause-rule : goal.number_act-returns-in_ok-new-in-NegativePattern-clause-rule
number_act-returns-in_ok-new-in-NegativePattern-clause-rule t c =
    pattern_added (names_of c.args.names.now) c.args.patterns_left (action_of c.args.action.now) c.in-NegativePattern.at (rule_of c.deref-in-NegativePattern.result.now) Negative c.args.actions.now.items c.open_pattern-in-NegativePattern.new.actions.items c.number_rule-in-NegativePattern.new.actions.items c.in_ok-position-in-NegativePattern.position c.in_ok-inside-in-NegativePattern.inside c.in_ok-new-in-NegativePattern.field-0 (negative_opens c.args.action.now c.in-NegativePattern.at c.in-NegativePattern.rule c.deref-in-NegativePattern.result.now c.in-NegativePattern.is c.deref-in-NegativePattern.ensures) c.in_ok-position-in-NegativePattern.ensures.opened c.in_ok-inside-in-NegativePattern.ensures.rule c.in_ok-new-in-NegativePattern.ensures.ok

pub number_act-add_action-requires-clause-plain : goal.number_act-add_action-requires-clause-plain
number_act-add_action-requires-clause-plain t c =
    elim c.in-Shift.is [
      | inl h ↦ ap is_spelt_pattern (ap action_of h.1 ∙ action_of-Shift h.0)
      | inr others ↦ elim others [
        | inl h ↦ ap is_spelt_pattern (ap action_of h.1 ∙ action_of-On h.0)
        | inr others ↦ elim others [
          | inl h ↦ ap is_spelt_pattern (ap action_of h.1 ∙ action_of-Off h.0)
          | inr others ↦ elim others [
            | inl h ↦ ap is_spelt_pattern (ap action_of h.2 ∙ action_of-Assign h.0 h.1)
            | inr others ↦ elim others [
              | inl h ↦ ap is_spelt_pattern (ap action_of h.3 ∙ action_of-Compare h.0 h.1 h.2)
              | inr h ↦ ap is_spelt_pattern (ap action_of h.2 ∙ action_of-Switch h.0 h.1)
            ]
          ]
        ]
      ]
    ]

pub number_parts-returns-in_err-rules-clause-fault : goal.number_parts-returns-in_err-rules-clause-fault
number_parts-returns-in_err-rules-clause-fault t c = passed_on c.from_residual.result Memory (HasFaultFrom (names_of c.args.names.now) c.args.patterns_left (length c.args.actions.now.items) (SpeltRule.sequence (rules_after no_rules (map rule_of c.args.parts.now)))) c.from_residual.ensures.1 from_memory

pub number_parts-loop-part-init : goal.number_parts-loop-part-init
number_parts-loop-part-init t c = rw c.in_ok-rules.ensures.items (no_parts (names_of c.args.names.now) c.args.patterns_left c.args.actions.now.items c.requires.room)

pub number_parts-number_rule-requires : goal.number_parts-number_rule-requires
number_parts-number_rule-requires t c =
    (search (rules, the_lemmas), (part_formed c.args.parts.now c.loop-part.part-index c.part-item.result c.requires.formed c.loop-part-test.true c.part-item.is, (c.requires.limits, (c.loop-part.invariant.few, c.requires.nesting))))

pub number_parts-returns-in_err-number_rule-clause-fault : goal.number_parts-returns-in_err-number_rule-clause-fault
number_parts-returns-in_err-number_rule-clause-fault t c =
    passed_on c.from_residual-in_err-number_rule.result c.in_err-number_rule.field-0.0 (HasFaultFrom (names_of c.args.names.now) c.args.patterns_left (length c.args.actions.now.items) (SpeltRule.sequence (rules_after no_rules (map rule_of c.args.parts.now)))) c.from_residual-in_err-number_rule.ensures.1
    (fault_of_next (names_of c.args.names.now) c.args.patterns_left c.args.parts.now c.loop-part.part-index c.part-item.result c.args.actions.now.items c.loop-part.actions.items c.loop-part.rules.items c.in_err-number_rule.field-0.0 c.loop-part-test.true c.part-item.is c.loop-part.invariant c.in_err-number_rule.ensures.fault)

pub number_parts-returns-in_err-push-clause-fault : goal.number_parts-returns-in_err-push-clause-fault
number_parts-returns-in_err-push-clause-fault t c = passed_on c.from_residual-in_err-push.result Memory (HasFaultFrom (names_of c.args.names.now) c.args.patterns_left (length c.args.actions.now.items) (SpeltRule.sequence (rules_after no_rules (map rule_of c.args.parts.now)))) c.from_residual-in_err-push.ensures.1 from_memory

pub number_parts-loop-part-preserved : goal.number_parts-loop-part-preserved
number_parts-loop-part-preserved t c =
    rw c.in_ok-push.ensures.items
    (next_part (names_of c.args.names.now) c.args.patterns_left c.args.parts.now c.loop-part.part-index c.part-item.result c.args.actions.now.items c.loop-part.actions.items c.number_rule.new.actions.items c.loop-part.rules.items c.in_ok-number_rule.field-0 c.loop-part-test.true c.part-item.is c.loop-part.invariant c.in_ok-number_rule.ensures.rule)

pub number_parts-returns-clause-parts : goal.number_parts-returns-clause-parts
number_parts-returns-clause-parts t c = all_parts (names_of c.args.names.now) c.args.patterns_left c.args.parts.now c.loop-part.part-index c.args.actions.now.items c.loop-part.actions.items c.loop-part.rules.items c.loop-part-test.false c.loop-part.invariant

pub number_rule-number_act-requires : goal.number_rule-number_act-requires
number_rule-number_act-requires t c =
    (search (rules, the_lemmas), (sym (ap is_formed (is_act c.args.rule.now c.in-Act.action c.in-Act.is)) ∙ c.requires.formed, (c.requires.limits, (c.requires.room, c.requires.nesting))))

pub number_rule-returns-in-Act-clause-rule : goal.number_rule-returns-in-Act-clause-rule
number_rule-returns-in-Act-clause-rule t c = rw (is_act c.args.rule.now c.in-Act.action c.in-Act.is) c.number_act.ensures.rule

pub number_rule-returns-in-Act-clause-fault : goal.number_rule-returns-in-Act-clause-fault
number_rule-returns-in-Act-clause-fault t c = rw (is_act c.args.rule.now c.in-Act.action c.in-Act.is) c.number_act.ensures.fault

pub number_rule-number_parts-requires : goal.number_rule-number_parts-requires
number_rule-number_parts-requires t c =
    (search (rules, the_lemmas), (then_formed c.args.rule.now c.in-Then.parts c.deref.result.now c.in-Then.is c.deref.ensures.value c.requires.formed, (c.requires.limits, (c.requires.room, c.requires.nesting))))

pub number_rule-returns-in_err-parts-in-Then-clause-fault : goal.number_rule-returns-in_err-parts-in-Then-clause-fault
number_rule-returns-in_err-parts-in-Then-clause-fault t c =
    passed_on c.from_residual.result c.in_err-parts-in-Then.field-0.0 (HasFaultFrom (names_of c.args.names.now) c.args.patterns_left (length c.args.actions.now.items) (rule_of c.args.rule.now)) c.from_residual.ensures.1
    (rw (is_then c.args.rule.now c.in-Then.parts c.deref.result.now c.in-Then.is c.deref.ensures.value) c.in_err-parts-in-Then.ensures.fault)

pub number_rule-returns-in_ok-parts-in-Then-clause-rule : goal.number_rule-returns-in_ok-parts-in-Then-clause-rule
number_rule-returns-in_ok-parts-in-Then-clause-rule t c =
    rw (is_then c.args.rule.now c.in-Then.parts c.deref.result.now c.in-Then.is c.deref.ensures.value)
    (sequence_added (names_of c.args.names.now) c.args.patterns_left (map rule_of c.deref.result.now) c.args.actions.now.items c.number_parts.new.actions.items c.in_ok-parts-in-Then.parts c.in_ok-parts-in-Then.ensures.parts)

pub number_rule-number_parts-requires-in-Or : goal.number_rule-number_parts-requires-in-Or
number_rule-number_parts-requires-in-Or t c =
    (search (rules, the_lemmas), (or_formed c.args.rule.now c.in-Or.parts c.deref-in-Or.result.now c.in-Or.is c.deref-in-Or.ensures.value c.requires.formed, (c.requires.limits, (c.requires.room, c.requires.nesting))))

pub number_rule-returns-in_err-parts-in-Or-clause-fault : goal.number_rule-returns-in_err-parts-in-Or-clause-fault
number_rule-returns-in_err-parts-in-Or-clause-fault t c =
    passed_on c.from_residual-in_err-parts-in-Or.result c.in_err-parts-in-Or.field-0.0 (HasFaultFrom (names_of c.args.names.now) c.args.patterns_left (length c.args.actions.now.items) (rule_of c.args.rule.now)) c.from_residual-in_err-parts-in-Or.ensures.1
    (rw (is_or c.args.rule.now c.in-Or.parts c.deref-in-Or.result.now c.in-Or.is c.deref-in-Or.ensures.value)
    (fault_in_choice (names_of c.args.names.now) c.args.patterns_left (length c.args.actions.now.items) (rules_after no_rules (map rule_of c.deref-in-Or.result.now)) c.in_err-parts-in-Or.field-0.0 c.in_err-parts-in-Or.ensures.fault))

pub number_rule-returns-in_ok-parts-in-Or-clause-rule : goal.number_rule-returns-in_ok-parts-in-Or-clause-rule
number_rule-returns-in_ok-parts-in-Or-clause-rule t c =
    rw (is_or c.args.rule.now c.in-Or.parts c.deref-in-Or.result.now c.in-Or.is c.deref-in-Or.ensures.value)
    (choice_added (names_of c.args.names.now) c.args.patterns_left (map rule_of c.deref-in-Or.result.now) c.args.actions.now.items c.number_parts-in-Or.new.actions.items c.in_ok-parts-in-Or.parts c.in_ok-parts-in-Or.ensures.parts)

pub number_rule-number_rule-requires : goal.number_rule-number_rule-requires
number_rule-number_rule-requires t c =
    (search (rules, the_lemmas), (sym (ap is_formed (is_star c.args.rule.now c.in-Star.part c.deref-in-Star.result.now c.in-Star.is c.deref-in-Star.ensures)) ∙ c.requires.formed, (c.requires.limits, (c.requires.room, c.requires.nesting))))

pub number_rule-returns-in_err-part-in-Star-clause-fault : goal.number_rule-returns-in_err-part-in-Star-clause-fault
number_rule-returns-in_err-part-in-Star-clause-fault t c =
    passed_on c.from_residual-in_err-part-in-Star.result c.in_err-part-in-Star.field-0.0 (HasFaultFrom (names_of c.args.names.now) c.args.patterns_left (length c.args.actions.now.items) (rule_of c.args.rule.now)) c.from_residual-in_err-part-in-Star.ensures.1
    (rw (is_star c.args.rule.now c.in-Star.part c.deref-in-Star.result.now c.in-Star.is c.deref-in-Star.ensures)
    (fault_in_star (names_of c.args.names.now) c.args.patterns_left (length c.args.actions.now.items) (rule_of c.deref-in-Star.result.now) c.in_err-part-in-Star.field-0.0 c.in_err-part-in-Star.ensures.fault))

pub number_rule-returns-in_err-new-in-Star-clause-fault : goal.number_rule-returns-in_err-new-in-Star-clause-fault
number_rule-returns-in_err-new-in-Star-clause-fault t c =
    passed_on c.from_residual-in_err-new-in-Star.result Memory (HasFaultFrom (names_of c.args.names.now) c.args.patterns_left (length c.args.actions.now.items) (rule_of c.args.rule.now)) c.from_residual-in_err-new-in-Star.ensures.1 from_memory

pub number_rule-returns-in_ok-new-in-Star-clause-rule : goal.number_rule-returns-in_ok-new-in-Star-clause-rule
number_rule-returns-in_ok-new-in-Star-clause-rule t c =
    rw (is_star c.args.rule.now c.in-Star.part c.deref-in-Star.result.now c.in-Star.is c.deref-in-Star.ensures)
    (star_added (names_of c.args.names.now) c.args.patterns_left (rule_of c.deref-in-Star.result.now) c.args.actions.now.items c.number_rule.new.actions.items c.in_ok-part-in-Star.part c.in_ok-new-in-Star.field-0 c.in_ok-new-in-Star.ensures.ok c.in_ok-part-in-Star.ensures.rule)
