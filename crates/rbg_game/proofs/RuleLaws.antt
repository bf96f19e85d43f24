-- What every rule by numbers has: names of the game, no empty sum, patterns nested within the limit, no switch in a pattern.
use Rattle.rbg_base.proofs.Common.{◌≡◌, ℕ, ◌+◌, ◌<◌, ◌≤◌, ◌⊎◌, inl, inr, List, [], ◌∷◌, true, Some, None, length, sym, ap, ◌∙◌, subst, arith, All, AllZip, range_with_len, and_parts, All-nil, All-cons, slice_get_within}
use Rattle.std.proofs.lemmas.List.FromFn.{length-range_with_len}
use Rattle.rbg_base.specs.declared.operator.Operator.{Operator}
use Rattle.rbg_base.specs.declared.operator.Operator.TheVariants.{Plus, Minus, Times, Over}
use Rattle.rbg_grammar.proofs.Common.{is_formed, are_formed, is_formed_action, has_two_rules, SpeltName, SpeltExpression, SpeltOperands, no_operands, more_operands, SpeltRule, SpeltRules, no_rules, more_rules, SpeltAction}
use Rattle.rbg_rules.specs.Meaning.{AbstractArithmetic, AbstractAction, shift, on, off, assignment, comparison, switch, positive, negative, Expression, act, skip, sequence, fail, choice, star, HasNoEmptySum, HasNoEmptySumInside, NestsWithin, InsideNestsWithin, HasNamesOf, IsActionOf, most_nested_patterns, HasAction, HasInside, positions_of, AbstractGame, operated, expression_of}
use Rattle.rbg_rules.specs.declared.rule.Action.{Action}
use Rattle.rbg_rules.specs.declared.rule.Rule.{Rule}
use Rattle.rbg_game.proofs.NumberingCommon.{Names, IsNumberOf, ArithmeticIs, ChainIs, ActionIs, RuleIs, PartsAre, actions_in, HasAsMany, HasNoSwitchInPattern, IsRuleByNumbers, IsLawful, IsLawfulAction, AddsRule}
use Rattle.rbg_game.proofs.Reaching.{reaches}

-- No sum is empty.
mutual
  no_empty_sum : (names : Names) (r : SpeltRule) (x : Expression) → RuleIs names r x → is_formed r ≡ true → HasNoEmptySum x
  no_empty_sum names (SpeltRule.act a) x (p, b, is, e) formed = subst HasNoEmptySum (sym e) (no_empty_sum_inside names a b is formed)
  no_empty_sum names (SpeltRule.sequence rs) x is formed = no_empty_sum_in_sequence names rs x is (and_parts (has_two_rules rs) (are_formed rs) formed).1
  no_empty_sum names (SpeltRule.choice no_rules) x is formed = cc
  no_empty_sum names (SpeltRule.choice (more_rules rs r)) x (y, z, before, one, e) formed =
      let all = (and_parts (has_two_rules (more_rules rs r)) (are_formed (more_rules rs r)) formed).1 in
      let (first, here) = and_parts (are_formed rs) (is_formed r) all in
      subst HasNoEmptySum (sym e) (no_empty_sum_in_choice names rs y before first, no_empty_sum names r z one here)
  no_empty_sum names (SpeltRule.star r) x (y, is, e) formed = subst HasNoEmptySum (sym e) (no_empty_sum names r y is formed)

  no_empty_sum_inside : (names : Names) (a : SpeltAction) (b : AbstractAction) → ActionIs names a b → is_formed_action a ≡ true → HasNoEmptySumInside b
  no_empty_sum_inside names (SpeltAction.shift n) b (d, is, e) formed = subst HasNoEmptySumInside (sym e) tt
  no_empty_sum_inside names (SpeltAction.on ns) b (xs, is, e) formed = subst HasNoEmptySumInside (sym e) tt
  no_empty_sum_inside names (SpeltAction.off n) b (x, is, e) formed = subst HasNoEmptySumInside (sym e) tt
  no_empty_sum_inside names (SpeltAction.assign n f) b (v, a, is, is_value, e) formed = subst HasNoEmptySumInside (sym e) tt
  no_empty_sum_inside names (SpeltAction.compare f r g) b (a, c, left, right, e) formed = subst HasNoEmptySumInside (sym e) tt
  no_empty_sum_inside names (SpeltAction.switch at None) b e formed = subst HasNoEmptySumInside (sym e) tt
  no_empty_sum_inside names (SpeltAction.switch at (Some n)) b (k, is, e) formed = subst HasNoEmptySumInside (sym e) tt
  no_empty_sum_inside names (SpeltAction.positive at r) b (x, is, e) formed = subst HasNoEmptySumInside (sym e) (no_empty_sum names r x is formed)
  no_empty_sum_inside names (SpeltAction.negative at r) b (x, is, e) formed = subst HasNoEmptySumInside (sym e) (no_empty_sum names r x is formed)

  no_empty_sum_in_sequence : (names : Names) (rs : SpeltRules) (x : Expression) → PartsAre names sequence skip rs x → are_formed rs ≡ true → HasNoEmptySum x
  no_empty_sum_in_sequence names no_rules x e formed = subst HasNoEmptySum (sym e) tt
  no_empty_sum_in_sequence names (more_rules rs r) x (y, z, before, one, e) formed =
      let (first, here) = and_parts (are_formed rs) (is_formed r) formed in
      subst HasNoEmptySum (sym e) (no_empty_sum_in_sequence names rs y before first, no_empty_sum names r z one here)

  no_empty_sum_in_choice : (names : Names) (rs : SpeltRules) (x : Expression) → PartsAre names choice fail rs x → are_formed rs ≡ true → (x ≡ fail) ⊎ HasNoEmptySum x
  no_empty_sum_in_choice names no_rules x e formed = inl e
  no_empty_sum_in_choice names (more_rules rs r) x (y, z, before, one, e) formed =
      let (first, here) = and_parts (are_formed rs) (is_formed r) formed in
      inr (subst HasNoEmptySum (sym e) (no_empty_sum_in_choice names rs y before first, no_empty_sum names r z one here))

-- Names are those of the game.
module _ (names : Names) (game : AbstractGame) (many : HasAsMany names game) where
  operated_names : (operator : Operator) (a b : AbstractArithmetic) → HasNamesOf game a → HasNamesOf game b → HasNamesOf game (operated operator a b)
  operated_names Plus a b left right = (left, right)
  operated_names Minus a b left right = (left, right)
  operated_names Times a b left right = (left, right)
  operated_names Over a b left right = (left, right)

  mutual
    arithmetic_names : (e : SpeltExpression) (a : AbstractArithmetic) → ArithmeticIs names e a → HasNamesOf game a
    arithmetic_names (SpeltExpression.number n) a (value, is, small, e) = subst (HasNamesOf game) (sym e) small
    arithmetic_names (SpeltExpression.name n) a (inl (v, is, e)) =
        let within : v < length game.variables = omega (arith, slice_get_within names.variables v n.text is, many.variables) in
        subst (HasNamesOf game) (sym e) within
    arithmetic_names (SpeltExpression.name n) a (inr (none, (p, is, e))) =
        let within : p < length game.pieces = omega (arith, slice_get_within names.pieces p n.text is, many.pieces) in
        subst (HasNamesOf game) (sym e) within
    arithmetic_names (SpeltExpression.negated f) a (b, is, e) = subst (HasNamesOf game) (sym e) (arithmetic_names f b is)
    arithmetic_names (SpeltExpression.chain os) a is = chain_names os a is

    chain_names : (os : SpeltOperands) (a : AbstractArithmetic) → ChainIs names os a → HasNamesOf game a
    chain_names no_operands a is = absurd is
    chain_names (more_operands os operator e) a (inl (none, is)) = arithmetic_names e a is
    chain_names (more_operands os operator e) a (inr (b, c, before, is, f)) = subst (HasNamesOf game) (sym f) (operated_names operator b c (chain_names os b before) (arithmetic_names e c is))

  pieces_within : (ns : List SpeltName) (xs : List ℕ) → AllZip (IsNumberOf names.pieces) ns xs → All (λ x. x < length game.pieces) xs
  pieces_within [] [] all = All-nil (λ x. x < length game.pieces)
  pieces_within [] (x ∷ xs) all = absurd all
  pieces_within (n ∷ ns) [] all = absurd all
  pieces_within (n ∷ ns) (x ∷ xs) all =
      let within : x < length game.pieces = omega (arith, slice_get_within names.pieces x n.text all.0, many.pieces) in
      All-cons (λ y. y < length game.pieces) x xs within (pieces_within ns xs all.1)

  action_names : (a : SpeltAction) (b : AbstractAction) → ActionIs names a b → IsActionOf game b
  action_names (SpeltAction.shift n) b (d, is, e) =
      let within : d < length game.directions = omega (arith, slice_get_within names.directions d n.text is, many.directions) in
      subst (IsActionOf game) (sym e) within
  action_names (SpeltAction.on ns) b (xs, is, e) = subst (IsActionOf game) (sym e) (pieces_within ns xs is)
  action_names (SpeltAction.off n) b (x, is, e) =
      let within : x < length game.pieces = omega (arith, slice_get_within names.pieces x n.text is, many.pieces) in
      subst (IsActionOf game) (sym e) within
  action_names (SpeltAction.assign n f) b (v, a, is, is_value, e) =
      let within : v < length game.variables = omega (arith, slice_get_within names.variables v n.text is, many.variables) in
      subst (IsActionOf game) (sym e) (within, arithmetic_names f a is_value)
  action_names (SpeltAction.compare f r g) b (a, c, left, right, e) = subst (IsActionOf game) (sym e) (arithmetic_names f a left, arithmetic_names g c right)
  action_names (SpeltAction.switch at None) b e =
      let within : 0 ≤ length game.players = omega arith in
      subst (IsActionOf game) (sym e) within
  action_names (SpeltAction.switch at (Some n)) b (k, is, e) =
      let within : k + 1 ≤ length game.players = omega (arith, slice_get_within names.players k n.text is, many.players) in
      subst (IsActionOf game) (sym e) within
  action_names (SpeltAction.positive at r) b (x, is, e) = subst (IsActionOf game) (sym e) tt
  action_names (SpeltAction.negative at r) b (x, is, e) = subst (IsActionOf game) (sym e) tt

  mutual
    rule_names : (r : SpeltRule) (x : Expression) → RuleIs names r x → (p : ℕ) (a : AbstractAction) → HasAction x p a → IsActionOf game a
    rule_names (SpeltRule.act s) x (q, b, is, e) p a has =
        elim (subst (λ y. HasAction y p a) e has) [
          | inl here ↦ subst (IsActionOf game) (sym here.1) (action_names s b is)
          | inr deeper ↦ names_inside s b is p a deeper
        ]
    rule_names (SpeltRule.sequence rs) x is p a has = parts_names sequence skip (λ q b none. none) (λ y z q b h. h) rs x is p a has
    rule_names (SpeltRule.choice rs) x is p a has = parts_names choice fail (λ q b none. none) (λ y z q b h. h) rs x is p a has
    rule_names (SpeltRule.star r) x (y, is, e) p a has = rule_names r y is p a (subst (λ z. HasAction z p a) e has)

    names_inside : (s : SpeltAction) (b : AbstractAction) → ActionIs names s b → (p : ℕ) (a : AbstractAction) → HasInside b p a → IsActionOf game a
    names_inside (SpeltAction.shift n) b (d, is, e) p a has = absurd (subst (λ c. HasInside c p a) e has)
    names_inside (SpeltAction.on ns) b (xs, is, e) p a has = absurd (subst (λ c. HasInside c p a) e has)
    names_inside (SpeltAction.off n) b (x, is, e) p a has = absurd (subst (λ c. HasInside c p a) e has)
    names_inside (SpeltAction.assign n f) b (v, d, is, is_value, e) p a has = absurd (subst (λ c. HasInside c p a) e has)
    names_inside (SpeltAction.compare f r g) b (d, c, left, right, e) p a has = absurd (subst (λ c. HasInside c p a) e has)
    names_inside (SpeltAction.switch at None) b e p a has = absurd (subst (λ c. HasInside c p a) e has)
    names_inside (SpeltAction.switch at (Some n)) b (k, is, e) p a has = absurd (subst (λ c. HasInside c p a) e has)
    names_inside (SpeltAction.positive at r) b (x, is, e) p a has = rule_names r x is p a (subst (λ c. HasInside c p a) e has)
    names_inside (SpeltAction.negative at r) b (x, is, e) p a has = rule_names r x is p a (subst (λ c. HasInside c p a) e has)

    parts_names : (joined : Expression → Expression → Expression) (none : Expression)
        → ((p : ℕ) (a : AbstractAction) → ¬ HasAction none p a) → ((y z : Expression) (p : ℕ) (a : AbstractAction) → HasAction (joined y z) p a → HasAction y p a ⊎ HasAction z p a)
        → (rs : SpeltRules) (x : Expression) → PartsAre names joined none rs x → (p : ℕ) (a : AbstractAction) → HasAction x p a → IsActionOf game a
    parts_names joined none empty either no_rules x e p a has = absurd (empty p a (subst (λ z. HasAction z p a) e has))
    parts_names joined none empty either (more_rules rs r) x (y, z, before, one, e) p a has =
        elim (either y z p a (subst (λ w. HasAction w p a) e has)) [
          | inl first ↦ parts_names joined none empty either rs y before p a first
          | inr here ↦ rule_names r z one p a here
        ]

-- Patterns are nested within the limit, and hold no switch.
mutual
  nests : (left : ℕ) (x : Expression) → IsLawful left x → NestsWithin left x
  nests left (act p a) h = nests_action left a h
  nests left skip h = tt
  nests left (sequence x y) h = (nests left x h.0, nests left y h.1)
  nests left fail h = tt
  nests left (choice x y) h = (nests left x h.0, nests left y h.1)
  nests left (star x) h = nests left x h

  nests_action : (left : ℕ) (a : AbstractAction) → IsLawfulAction left a → InsideNestsWithin left a
  nests_action left (positive x) (below, few, h) = (below, few, nests below x h)
  nests_action left (negative x) (below, few, h) = (below, few, nests below x h)
  nests_action left (shift d) h = tt
  nests_action left (on xs) h = tt
  nests_action left (off x) h = tt
  nests_action left (assignment v e) h = tt
  nests_action left (comparison e r f) h = tt
  nests_action left (switch n) h = tt

lawful_at : (left p : ℕ) (x : Expression) (a : AbstractAction) → IsLawful left x → HasAction x p a → (below : ℕ) × (below ≤ left) × IsLawfulAction below a
lawful_at = reaches IsLawful IsLawfulAction (λ left p a h. h) (λ left x y h. h) (λ left x y h. h) (λ left x h. h) (λ left x h. h) (λ left x h. h)

no_switch : (left : ℕ) (x : Expression) → left < most_nested_patterns → IsLawful left x → (q n : ℕ) → ¬ HasAction x q (switch n)
no_switch left x fewer h q n has =
    let (below, few, outermost) = lawful_at left q x (switch n) h has in
    absurd (omega arith)

no_switch_in_pattern : (x : Expression) → IsLawful most_nested_patterns x → HasNoSwitchInPattern x
no_switch_in_pattern x h p y (inl level) q n has =
    let (below, few, (m, fewer, lawful)) = lawful_at most_nested_patterns p x (positive y) h level in
    no_switch m y (omega arith) lawful q n has
no_switch_in_pattern x h p y (inr level) q n has =
    let (below, few, (m, fewer, lawful)) = lawful_at most_nested_patterns p x (negative y) h level in
    no_switch m y (omega arith) lawful q n has

-- The whole rules, with nothing before them.
module _ (names : Names) (r : SpeltRule) (new : List Action) (x : Rule) (formed : is_formed r ≡ true) (h : AddsRule names most_nested_patterns r [] new x) where
  counted : length (positions_of (expression_of new x)) ≡ actions_in r
  counted = ap length h.numbers.positions ∙ length-range_with_len (0 + 1) (actions_in r)

  pub rules_made : IsRuleByNumbers names r (expression_of new x)
  rules_made =
      record {
        is_rule = h.numbers.means;
        numbered = record { in_order = h.numbers.positions ∙ ap (range_with_len 1) (sym counted) };
        positions = omega (arith, counted, h.count, h.few);
        nesting = nests most_nested_patterns (expression_of new x) h.numbers.lawful;
        switches = no_switch_in_pattern (expression_of new x) h.numbers.lawful;
        no_empty_sum = no_empty_sum names r (expression_of new x) h.numbers.means formed;
        actions = λ game many. rule_names names game many r (expression_of new x) h.numbers.means;
      }

  pub one_each : length new ≡ length (positions_of (expression_of new x))
  one_each = omega (arith, counted, h.count)
