-- What is wrong with a part of the rules is wrong with the whole.
use Rattle.std.proofs.Common.{◌≡◌, ℕ, zero, suc, ◌+◌, ◌<◌, ◌≤◌, List, [], ◌∷◌, length, take, get_or, refl, sym, ap, subst, arith}
use Rattle.rbg_grammar.specs.Tree.{SpeltRule, SpeltRules, no_rules, more_rules, rules_after, SpeltAction}
use Rattle.rbg_rules.specs.Meaning.{most_nested_patterns}
use Rattle.rbg_game.proofs.NumberingCommon.{GameError, Names, HasSpeltAction, this, in_sequence, in_choice, in_star, in_positive, in_negative, SomeHasSpeltAction, earlier, last, IsSpeltPattern, positive_pattern, negative_pattern, HasPattern, HasPatternInside, in_none, in_one_more, HasSwitch, actions_in, actions_of, HasRuleFault, unknown_use, in_arithmetic, switch_in_pattern, deep_pattern, many_positions, rule_memory, HasOpeningFault, too_many, too_deep, no_memory_left, actions_in_list, HasFaultFrom, from_use, from_arithmetic, from_switch, from_inner_switch, from_depth, from_positions, from_memory}
use Rattle.rbg_game.proofs.StepLemmas.{count_after, count_within}

-- the actions of the one rule are among those of the other
abbrev HasAllOf : SpeltRule → SpeltRule → Type 0
HasAllOf whole part = (a : SpeltAction) → HasSpeltAction part a → HasSpeltAction whole a

pattern_in_whole : (whole part : SpeltRule) (at : ℕ) (inside : SpeltRule) → HasAllOf whole part → HasPattern part at inside → HasPattern whole at inside
pattern_in_whole whole part at inside all h = record { action = h.action; stands = all h.action h.stands; is_pattern = h.is_pattern }

deep_in_whole : (whole part : SpeltRule) (outer at : ℕ) → HasAllOf whole part → HasPatternInside part outer at → HasPatternInside whole outer at
deep_in_whole whole _ _ at all (in_none {r = part} {inside = inside} h) = in_none (pattern_in_whole whole part at inside all h)
deep_in_whole whole _ _ at all (in_one_more {r = part} {inside = inside} {at_outer = at_outer} h deeper) = in_one_more (pattern_in_whole whole part at_outer inside all h) deeper

switch_in_whole : (whole part : SpeltRule) (at : ℕ) → HasAllOf whole part → HasSwitch part at → HasSwitch whole at
switch_in_whole whole part at all h = record { player = h.player; stands = all _ h.stands }

-- A part at the same level.
pub fault_in_whole : (names : Names) (left before later : ℕ) (whole part : SpeltRule) (error : GameError) → HasAllOf whole part → later + actions_in part ≤ before + actions_in whole → HasFaultFrom names left later part error → HasFaultFrom names left before whole error
fault_in_whole names left before later whole part _ all few (from_use stands uses h) = from_use (all _ stands) uses h
fault_in_whole names left before later whole part _ all few (from_arithmetic stands has h) = from_arithmetic (all _ stands) has h
fault_in_whole names left before later whole part _ all few (from_switch {at = at} inside h) = from_switch inside (switch_in_whole whole part at all h)
fault_in_whole names left before later whole part _ all few (from_inner_switch {at_pattern = at_pattern} {inside = inside} pattern h) = from_inner_switch (pattern_in_whole whole part at_pattern inside all pattern) h
fault_in_whole names left before later whole part _ all few (from_depth {at = at} h) = from_depth (deep_in_whole whole part left at all h)
fault_in_whole names left before later whole part _ all few (from_positions many) = from_positions (omega arith)
fault_in_whole names left before later whole part _ all few from_memory = from_memory

pub fault_in_star : (names : Names) (left before : ℕ) (r : SpeltRule) (error : GameError) → HasFaultFrom names left before r error → HasFaultFrom names left before (SpeltRule.star r) error
fault_in_star names left before r error h = fault_in_whole names left before before (SpeltRule.star r) r error (λ a stands. in_star stands) (omega arith) h

in_a_choice : (rs : SpeltRules) → HasAllOf (SpeltRule.choice rs) (SpeltRule.sequence rs)
in_a_choice rs a (in_sequence h) = in_choice h

pub fault_in_choice : (names : Names) (left before : ℕ) (rs : SpeltRules) (error : GameError) → HasFaultFrom names left before (SpeltRule.sequence rs) error → HasFaultFrom names left before (SpeltRule.choice rs) error
fault_in_choice names left before rs error h = fault_in_whole names left before before (SpeltRule.choice rs) (SpeltRule.sequence rs) error (in_a_choice rs) (omega arith) h

stands_after : (first : SpeltRules) (rs : List SpeltRule) (s : SpeltAction) → SomeHasSpeltAction first s → SomeHasSpeltAction (rules_after first rs) s
stands_after first [] s h = h
stands_after first (r ∷ rs) s h = stands_after (more_rules first r) rs s (earlier h)

item_stands : (first : SpeltRules) (rs : List SpeltRule) (k : ℕ) (d : SpeltRule) (s : SpeltAction) → k < length rs → HasSpeltAction (get_or rs k d) s → SomeHasSpeltAction (rules_after first rs) s
item_stands first [] k d s below h = absurd (omega arith)
item_stands first (r ∷ rs) zero d s below h = stands_after (more_rules first r) rs s (last h)
item_stands first (r ∷ rs) (suc k) d s below h = item_stands (more_rules first r) rs k d s (omega arith) h

-- The part at a place of a sequence.
pub fault_in_parts : (names : Names) (left before : ℕ) (rs : List SpeltRule) (k : ℕ) (r : SpeltRule) (error : GameError) → k < length rs → get_or rs k r ≡ r → HasFaultFrom names left (before + actions_in_list (take k rs)) r error → HasFaultFrom names left before (SpeltRule.sequence (rules_after no_rules rs)) error
fault_in_parts names left before rs k r error below is h =
    let total = count_after no_rules rs in
    let part = count_within rs k r below in
    let same : actions_in (get_or rs k r) ≡ actions_in r = ap actions_in is in
    fault_in_whole names left before (before + actions_in_list (take k rs)) (SpeltRule.sequence (rules_after no_rules rs)) r error
    (λ a stands. in_sequence (item_stands no_rules rs k r a below (subst (λ q. HasSpeltAction q a) (sym is) stands))) (omega arith) h

-- The inside of a pattern.
pattern_has : (s : SpeltAction) (at : ℕ) (inside : SpeltRule) → IsSpeltPattern s at inside → HasAllOf (SpeltRule.act s) inside
pattern_has _ at inside positive_pattern a h = in_positive h
pattern_has _ at inside negative_pattern a h = in_negative h

counts_inside : (s : SpeltAction) (at : ℕ) (inside : SpeltRule) → IsSpeltPattern s at inside → actions_of s ≡ suc (actions_in inside)
counts_inside _ at inside positive_pattern = refl
counts_inside _ at inside negative_pattern = refl

itself_there : (s : SpeltAction) (at : ℕ) (inside : SpeltRule) → IsSpeltPattern s at inside → HasPattern (SpeltRule.act s) at inside
itself_there s at inside pattern = record { action = s; stands = this; is_pattern = pattern }

pub fault_inside : (names : Names) (left below before : ℕ) (s : SpeltAction) (at : ℕ) (inside : SpeltRule) (error : GameError) → IsSpeltPattern s at inside → left ≡ suc below → HasFaultFrom names below (before + 1) inside error → HasFaultFrom names left before (SpeltRule.act s) error
fault_inside names left below before s at inside _ pattern few (from_use stands uses h) = from_use (pattern_has s at inside pattern _ stands) uses h
fault_inside names left below before s at inside _ pattern few (from_arithmetic stands has h) = from_arithmetic (pattern_has s at inside pattern _ stands) has h
fault_inside names left below before s at inside _ pattern few (from_switch inside_one h) = from_inner_switch (itself_there s at inside pattern) h
fault_inside names left below before s at inside _ pattern few (from_inner_switch {at_pattern = at_pattern} {inside = deeper} there h) = from_inner_switch (pattern_in_whole (SpeltRule.act s) inside at_pattern deeper (pattern_has s at inside pattern) there) h
fault_inside names left below before s at inside _ pattern few (from_depth {at = at_deep} h) = from_depth (subst (λ n. HasPatternInside (SpeltRule.act s) n at_deep) (sym few) (in_one_more (itself_there s at inside pattern) h))
fault_inside names left below before s at inside _ pattern few (from_positions many) =
    let counts = counts_inside s at inside pattern in
    from_positions (omega arith)
fault_inside names left below before s at inside _ pattern few from_memory = from_memory

-- A pattern that isn't added.
pub opening_fault : (names : Names) (left before : ℕ) (s : SpeltAction) (at : ℕ) (inside : SpeltRule) (error : GameError) → IsSpeltPattern s at inside → HasOpeningFault left at before error → HasFaultFrom names left before (SpeltRule.act s) error
opening_fault names left before s at inside _ pattern (too_many many) =
    let counts = counts_inside s at inside pattern in
    from_positions (omega arith)
opening_fault names left before s at inside _ pattern (too_deep none) = from_depth (subst (λ n. HasPatternInside (SpeltRule.act s) n at) (sym none) (in_none (itself_there s at inside pattern)))
opening_fault names left before s at inside _ pattern no_memory_left = from_memory

-- At the beginning no pattern is open and no action numbered.
pub fault_of_rules : (names : Names) (r : SpeltRule) (error : GameError) → HasFaultFrom names most_nested_patterns 0 r error → HasRuleFault names r error
fault_of_rules names r _ (from_use stands uses h) = unknown_use stands uses h
fault_of_rules names r _ (from_arithmetic stands has h) = in_arithmetic stands has h
fault_of_rules names r _ (from_switch inside_one h) = absurd (omega arith)
fault_of_rules names r _ (from_inner_switch there h) = switch_in_pattern there h
fault_of_rules names r _ (from_depth h) = deep_pattern h
fault_of_rules names r _ (from_positions many) = many_positions (omega arith)
fault_of_rules names r _ from_memory = rule_memory
