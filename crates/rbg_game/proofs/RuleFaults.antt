-- A rule with a fault has no rules by numbers.
use Rattle.rbg_base.proofs.Common.{◌≡◌, ◌≢◌, ℕ, suc, ◌+◌, ◌≤◌, refl, List, [], ◌∷◌, ◌++◌, Option, Some, None, ◌⊎◌, inl, inr, length, get_or, ap, sym, ◌∙◌, subst, arith, Contains, AllZip}
use Rattle.std.proofs.lemmas.List.{length-append}
use Rattle.rbg_grammar.specs.Tree.{SpeltName, SpeltExpression, SpeltOperands, no_operands, SpeltRule, SpeltRules, no_rules, more_rules, SpeltAction}
use Rattle.rbg_rules.specs.Meaning.{AbstractArithmetic, AbstractAction, switch, Expression, skip, sequence, fail, choice, NestsWithin, InsideNestsWithin, HasAction, HasInside, positions_of, positions_inside, IsPatternOf, IsLevel, inside as level_of, most_positions, most_nested_patterns}
use Rattle.rbg_game.proofs.NumberingCommon.{GameError, Memory, Names, IsNumberOf, ArithmeticIs, ChainIs, ActionIs, RuleIs, PartsAre, HasUnknown, Purpose, as_piece, as_variable, names_for, Uses, shifts, stands_on, puts, assigns, gives_turn, HasPart, itself, in_negated, in_chain, SomeOperandHasPart, earlier_operand, last_operand, HasArithmeticFault, unknown_value, great_number, arithmetic_memory, HasExpression, assigned, left_side, right_side, HasSpeltAction, this, in_sequence, in_choice, in_star, in_positive, in_negative, SomeHasSpeltAction, earlier, last, actions_in, actions_in_all, actions_of, IsSpeltPattern, positive_pattern, negative_pattern, HasPattern, HasPatternInside, in_none, in_one_more, HasRuleFault, unknown_use, in_arithmetic, switch_in_pattern, deep_pattern, many_positions, rule_memory, HasNoSwitchInPattern}
use Rattle.rbg_base.proofs.CallerLemmas.{Contains-from_get}
use Rattle.rbg_game.proofs.Lists.{Contains-one, AllZip-at}
use Rattle.rbg_game.proofs.Reaching.{reaches}

-- a list with an unknown name has no numbers
pub unnumbered : (known : List (List ℕ)) (names : List SpeltName) (name : SpeltName) (numbers : List ℕ) → Contains names name → ¬ Contains known name.text → ¬ AllZip (IsNumberOf known) names numbers
unnumbered known names name numbers (k, within, is) unknown all =
    let number = AllZip-at (IsNumberOf known) names numbers k name 0 all within in
    unknown (Contains-from_get known (get_or numbers k 0) name.text (number ∙ ap (λ (n : SpeltName). Some n.text) is))

mutual
  -- Each action that is spelt in a rule is one by numbers.
  action_in_rule : (names : Names) (r : SpeltRule) (x : Expression) (s : SpeltAction) → HasSpeltAction r s → RuleIs names r x → (p : ℕ) × (b : AbstractAction) × ActionIs names s b × HasAction x p b
  action_in_rule names _ x s this (p, b, is, e) = (p, b, is, subst (λ z. HasAction z p b) (sym e) (inl (refl, refl)))
  action_in_rule names _ x s (in_sequence {rs = rs} h) is = action_in_parts names sequence skip (λ y z p b has. has) rs x s h is
  action_in_rule names _ x s (in_choice {rs = rs} h) is = action_in_parts names choice fail (λ y z p b has. has) rs x s h is
  action_in_rule names _ x s (in_star {r = r} h) (y, is, e) =
      let (p, b, named, has) = action_in_rule names r y s h is in
      (p, b, named, subst (λ z. HasAction z p b) (sym e) has)
  action_in_rule names _ x s (in_positive {r = r} h) (p, c, (y, is, f), e) =
      let (q, b, named, has) = action_in_rule names r y s h is in
      (q, b, named, subst (λ z. HasAction z q b) (sym e) (inr (subst (λ d. HasInside d q b) (sym f) has)))
  action_in_rule names _ x s (in_negative {r = r} h) (p, c, (y, is, f), e) =
      let (q, b, named, has) = action_in_rule names r y s h is in
      (q, b, named, subst (λ z. HasAction z q b) (sym e) (inr (subst (λ d. HasInside d q b) (sym f) has)))

  action_in_parts : (names : Names) (joined : Expression → Expression → Expression) (none : Expression)
      → ((y z : Expression) (p : ℕ) (b : AbstractAction) → HasAction y p b ⊎ HasAction z p b → HasAction (joined y z) p b)
      → (rs : SpeltRules) (x : Expression) (s : SpeltAction) → SomeHasSpeltAction rs s → PartsAre names joined none rs x → (p : ℕ) × (b : AbstractAction) × ActionIs names s b × HasAction x p b
  action_in_parts names joined none either _ x s (earlier {rs = rs} h) (y, z, before, one, e) =
      let (p, b, named, has) = action_in_parts names joined none either rs y s h before in
      (p, b, named, subst (λ w. HasAction w p b) (sym e) (either y z p b (inl has)))
  action_in_parts names joined none either _ x s (last {r = r} h) (y, z, before, one, e) =
      let (p, b, named, has) = action_in_rule names r z s h one in
      (p, b, named, subst (λ w. HasAction w p b) (sym e) (either y z p b (inr has)))

one_fails : (known : List (List ℕ)) (n : SpeltName) (number at : ℕ) → HasUnknown known (n ∷ []) at → ¬ IsNumberOf known n number
one_fails known n number at h is =
    let same : n ≡ h.name = Contains-one n h.name h.stands in
    h.unknown (Contains-from_get known number h.name.text (is ∙ ap (λ (m : SpeltName). Some m.text) same))

-- a name that an action uses and that isn't known has no number
use_fails : (names : Names) (s : SpeltAction) (purpose : Purpose) (used : List SpeltName) (at : ℕ) (b : AbstractAction) → Uses s purpose used → HasUnknown (names_for names purpose) used at → ¬ ActionIs names s b
use_fails names _ _ _ at b (shifts {n = n}) h (d, is, e) = one_fails names.directions n d at h is
use_fails names _ _ _ at b (stands_on {ns = ns}) h (xs, each, e) = unnumbered names.pieces ns h.name xs h.stands h.unknown each
use_fails names _ _ _ at b (assigns {n = n}) h (v, a, is, is_value, e) = one_fails names.variables n v at h is
use_fails names _ _ _ at b (puts {n = n}) h (x, is, e) = one_fails names.pieces n x at h is
use_fails names _ _ _ at b (gives_turn {n = n}) h (k, is, e) = one_fails names.players n k at h is

mutual
  -- a rule by numbers has as many positions as actions are spelt
  pub positions_spelt : (names : Names) (r : SpeltRule) (x : Expression) → RuleIs names r x → length (positions_of x) ≡ actions_in r
  positions_spelt names (SpeltRule.act s) x (p, b, is, e) = ap (λ y. length (positions_of y)) e ∙ positions_spelt_inside names s b is
  positions_spelt names (SpeltRule.sequence rs) x is = positions_in_parts names sequence skip refl (λ y z. refl) rs x is
  positions_spelt names (SpeltRule.choice rs) x is = positions_in_parts names choice fail refl (λ y z. refl) rs x is
  positions_spelt names (SpeltRule.star r) x (y, is, e) = ap (λ z. length (positions_of z)) e ∙ positions_spelt names r y is

  positions_spelt_inside : (names : Names) (s : SpeltAction) (b : AbstractAction) → ActionIs names s b → suc (length (positions_inside b)) ≡ actions_of s
  positions_spelt_inside names (SpeltAction.shift n) b (d, is, e) = ap (λ c. suc (length (positions_inside c))) e
  positions_spelt_inside names (SpeltAction.on ns) b (xs, is, e) = ap (λ c. suc (length (positions_inside c))) e
  positions_spelt_inside names (SpeltAction.off n) b (x, is, e) = ap (λ c. suc (length (positions_inside c))) e
  positions_spelt_inside names (SpeltAction.assign n a) b (v, c, v_is, c_is, e) = ap (λ c. suc (length (positions_inside c))) e
  positions_spelt_inside names (SpeltAction.compare a r c) b (x, y, x_is, y_is, e) = ap (λ c. suc (length (positions_inside c))) e
  positions_spelt_inside names (SpeltAction.switch at None) b e = ap (λ c. suc (length (positions_inside c))) e
  positions_spelt_inside names (SpeltAction.switch at (Some n)) b (k, is, e) = ap (λ c. suc (length (positions_inside c))) e
  positions_spelt_inside names (SpeltAction.positive at r) b (x, is, e) = ap (λ c. suc (length (positions_inside c))) e ∙ ap suc (positions_spelt names r x is)
  positions_spelt_inside names (SpeltAction.negative at r) b (x, is, e) = ap (λ c. suc (length (positions_inside c))) e ∙ ap suc (positions_spelt names r x is)

  positions_in_parts : (names : Names) (joined : Expression → Expression → Expression) (none : Expression)
      → length (positions_of none) ≡ 0 → ((y z : Expression) → positions_of (joined y z) ≡ positions_of y ++ positions_of z)
      → (rs : SpeltRules) (x : Expression) → PartsAre names joined none rs x → length (positions_of x) ≡ actions_in_all rs
  positions_in_parts names joined none no_positions both no_rules x e = ap (λ z. length (positions_of z)) e ∙ no_positions
  positions_in_parts names joined none no_positions both (more_rules rs r) x (y, z, before, one, e) =
      let first = positions_in_parts names joined none no_positions both rs y before in
      let second = positions_spelt names r z one in
      let sum = length-append (positions_of y) (positions_of z) in
      rw (e, both y z) (omega arith)

-- Arithmetic.

no_operand : (part : SpeltExpression) → SomeOperandHasPart no_operands part → ⊥
no_operand part h = elim h [ ]

mutual
  -- each part of an expression is one by numbers
  part_is : (names : Names) (e part : SpeltExpression) (a : AbstractArithmetic) → HasPart e part → ArithmeticIs names e a → (b : AbstractArithmetic) × ArithmeticIs names part b
  part_is names _ part a itself is = (a, is)
  part_is names _ part a (in_negated {e = e} h) (b, is, f) = part_is names e part b h is
  part_is names _ part a (in_chain {os = os} h) is = part_of_chain names os part a h is

  part_of_chain : (names : Names) (os : SpeltOperands) (part : SpeltExpression) (a : AbstractArithmetic) → SomeOperandHasPart os part → ChainIs names os a → (b : AbstractArithmetic) × ArithmeticIs names part b
  part_of_chain names _ part a (earlier_operand {os = os} h) (inl (none, is)) = absurd (no_operand part (subst (λ l. SomeOperandHasPart l part) none h))
  part_of_chain names _ part a (earlier_operand {os = os} h) (inr (b, c, before, is, f)) = part_of_chain names os part b h before
  part_of_chain names _ part a (last_operand {e = e} h) (inl (none, is)) = part_is names e part a h is
  part_of_chain names _ part a (last_operand {e = e} h) (inr (b, c, before, is, f)) = part_is names e part c h is

-- an expression with a fault has no numbers
arithmetic_fails : (names : Names) (e : SpeltExpression) (error : GameError) (a : AbstractArithmetic) → HasArithmeticFault names e error → error ≢ Memory → ¬ ArithmeticIs names e a
arithmetic_fails names e _ a (unknown_value h) other is =
    let (b, value) = part_is names e (SpeltExpression.name h.name) a h.stands is in
    elim value [
      | inl v ↦ h.no_variable (Contains-from_get names.variables v.0 h.name.text v.1)
      | inr p ↦ h.no_piece (Contains-from_get names.pieces p.1.0 h.name.text p.1.1)
    ]
arithmetic_fails names e _ a (great_number h) other is =
    let (b, (value, spelt, small, f)) = part_is names e (SpeltExpression.number h.number) a h.stands is in
    let great = h.too_great value spelt in
    absurd (omega arith)
arithmetic_fails names e _ a arithmetic_memory other is = other refl

-- an action with such an expression neither
expression_fails : (names : Names) (s : SpeltAction) (e : SpeltExpression) (error : GameError) (b : AbstractAction) → HasExpression s e → HasArithmeticFault names e error → error ≢ Memory → ¬ ActionIs names s b
expression_fails names _ e error b assigned h other (v, a, is, is_value, f) = arithmetic_fails names e error a h other is_value
expression_fails names _ e error b left_side h other (a, c, left, right, f) = arithmetic_fails names e error a h other left
expression_fails names _ e error b right_side h other (a, c, left, right, f) = arithmetic_fails names e error c h other right

-- Patterns.

-- A pattern of the rule is one of the expression: the pattern of the rule inside.
record IsPatternThere (names : Names) (inside : SpeltRule) (x : Expression) : Type 0 where
  pub position : ℕ
  pub action : AbstractAction
  pub stands : HasAction x position action
  pub rule : Expression
  pub is_rule : RuleIs names inside rule
  pub is_pattern : IsPatternOf action rule

spelt_pattern : (names : Names) (s : SpeltAction) (at : ℕ) (inside : SpeltRule) (b : AbstractAction) → IsSpeltPattern s at inside → ActionIs names s b → (y : Expression) × RuleIs names inside y × IsPatternOf b y
spelt_pattern names _ at inside b positive_pattern (y, is, e) = (y, is, inl e)
spelt_pattern names _ at inside b negative_pattern (y, is, e) = (y, is, inr e)

pattern_there : (names : Names) (r : SpeltRule) (at : ℕ) (inside : SpeltRule) (x : Expression) → HasPattern r at inside → RuleIs names r x → IsPatternThere names inside x
pattern_there names r at inside x h is =
    let (p, b, named, has) = action_in_rule names r x h.action h.stands is in
    let (y, is_rule, pattern) = spelt_pattern names h.action at inside b h.is_pattern named in
    record { position = p; action = b; stands = has; rule = y; is_rule = is_rule; is_pattern = pattern }

-- the pattern is the inside of its level
is_level : (x y : Expression) (p : ℕ) (b : AbstractAction) → HasAction x p b → IsPatternOf b y → IsLevel x (level_of p) y
is_level x y p b has (inl e) = inl (subst (HasAction x p) e has)
is_level x y p b has (inr e) = inr (subst (HasAction x p) e has)

switch_is : (names : Names) (at : ℕ) (player : Option SpeltName) (b : AbstractAction) → ActionIs names (SpeltAction.switch at player) b → (n : ℕ) × (b ≡ switch n)
switch_is names at None b e = (0, e)
switch_is names at (Some name) b (k, is, e) = (k + 1, e)

nests_at : (limit p : ℕ) (x : Expression) (b : AbstractAction) → NestsWithin limit x → HasAction x p b → (below : ℕ) × (below ≤ limit) × InsideNestsWithin below b
nests_at = reaches NestsWithin InsideNestsWithin (λ left p a h. h) (λ left x y h. h) (λ left x y h. h) (λ left x h. h) (λ left x h. h) (λ left x h. h)

pattern_nests : (limit : ℕ) (b : AbstractAction) (y : Expression) → IsPatternOf b y → InsideNestsWithin limit b → (below : ℕ) × (limit ≡ suc below) × NestsWithin below y
pattern_nests limit b y (inl e) nests = subst (InsideNestsWithin limit) e nests
pattern_nests limit b y (inr e) nests = subst (InsideNestsWithin limit) e nests

-- a pattern inside as many others as may be nested
too_deep : (names : Names) (r : SpeltRule) (outer at limit : ℕ) (x : Expression) → HasPatternInside r outer at → limit ≤ outer → NestsWithin limit x → ¬ RuleIs names r x
too_deep names _ _ at limit x (in_none {r = r} {inside = inside} h) few nests is =
    let there = pattern_there names r at inside x h is in
    let (below, fewer, within) = nests_at limit there.position x there.action nests there.stands in
    let (less, more, nested) = pattern_nests below there.action there.rule there.is_pattern within in
    absurd (omega arith)
too_deep names _ _ at limit x (in_one_more {r = r} {inside = inside} {outer = outer} {at_outer = at_outer} h deeper) few nests is =
    let there = pattern_there names r at_outer inside x h is in
    let (below, fewer, within) = nests_at limit there.position x there.action nests there.stands in
    let (less, more, nested) = pattern_nests below there.action there.rule there.is_pattern within in
    too_deep names inside outer at less there.rule deeper (omega arith) nested there.is_rule

-- A rule with the fault that is named has no rules by numbers.
pub rule_fault_fails : (names : Names) (r : SpeltRule) (error : GameError) (x : Expression) → HasRuleFault names r error → error ≢ Memory → length (positions_of x) ≤ most_positions → NestsWithin most_nested_patterns x → HasNoSwitchInPattern x → ¬ RuleIs names r x
rule_fault_fails names r _ x (unknown_use {action = s} {purpose = purpose} {used = used} {at = at} stands uses h) other few nests apart is =
    let (p, b, named, has) = action_in_rule names r x s stands is in
    use_fails names s purpose used at b uses h named
rule_fault_fails names r error x (in_arithmetic {action = s} {e = e} stands has_expression h) other few nests apart is =
    let (p, b, named, has) = action_in_rule names r x s stands is in
    expression_fails names s e error b has_expression h other named
rule_fault_fails names r _ x (switch_in_pattern {at = at} {at_pattern = at_pattern} {inside = within} pattern h) other few nests apart is =
    let there = pattern_there names r at_pattern within x pattern is in
    let (q, b, named, has) = action_in_rule names within there.rule (SpeltAction.switch at h.player) h.stands there.is_rule in
    let (n, e) = switch_is names at h.player b named in
    apart there.position there.rule (is_level x there.rule there.position there.action there.stands there.is_pattern) q n (subst (HasAction there.rule q) e has)
rule_fault_fails names r _ x (deep_pattern {at = at} h) other few nests apart is = too_deep names r most_nested_patterns at most_nested_patterns x h (omega arith) nests is
rule_fault_fails names r _ x (many_positions many) other few nests apart is = absurd (omega (arith, positions_spelt names r x is))
rule_fault_fails names r _ x rule_memory other few nests apart is = other refl

-- each name of the one list is in the other
abbrev pub IsAmong : List (List ℕ) → List (List ℕ) → Type 0
IsAmong few all = (name : List ℕ) → Contains few name → Contains all name

pub among_same : (few all : List (List ℕ)) → few ≡ all → IsAmong few all
among_same few all same name has = subst (λ l. Contains l name) same has

-- what is wrong with an expression or a rule is also wrong if there are no further names
arithmetic_fault_by : (few all : Names) (e : SpeltExpression) (error : GameError) → ((purpose : Purpose) → IsAmong (names_for few purpose) (names_for all purpose)) → HasArithmeticFault all e error → HasArithmeticFault few e error
arithmetic_fault_by few all e _ among (unknown_value h) =
    unknown_value (record {
      name = h.name;
      stands = h.stands;
      no_variable = λ known. h.no_variable (among as_variable h.name.text known);
      no_piece = λ known. h.no_piece (among as_piece h.name.text known);
      place = h.place;
    })
arithmetic_fault_by few all e _ among (great_number h) = great_number h
arithmetic_fault_by few all e _ among arithmetic_memory = arithmetic_memory

pub rule_fault_by : (few all : Names) (r : SpeltRule) (error : GameError) → ((purpose : Purpose) → IsAmong (names_for few purpose) (names_for all purpose)) → HasRuleFault all r error → HasRuleFault few r error
rule_fault_by few all r _ among (unknown_use {purpose = purpose} stands uses h) =
    unknown_use stands uses (record { name = h.name; stands = h.stands; unknown = λ known. h.unknown (among purpose h.name.text known); place = h.place })
rule_fault_by few all r error among (in_arithmetic stands has h) = in_arithmetic stands has (arithmetic_fault_by few all _ error among h)
rule_fault_by few all r _ among (switch_in_pattern pattern h) = switch_in_pattern pattern h
rule_fault_by few all r _ among (deep_pattern h) = deep_pattern h
rule_fault_by few all r _ among (many_positions many) = many_positions many
rule_fault_by few all r _ among rule_memory = rule_memory
