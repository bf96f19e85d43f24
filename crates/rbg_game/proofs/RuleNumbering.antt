-- The trees of the code and what they spell: rules by numbers, part for part.
use Rattle.rbg_base.proofs.Common.{◌≡◌, ℕ, suc, ◌+◌, ◌-◌, ◌<◌, ◌≤◌, List, [], ◌∷◌, ◌++◌, Vec, true, length, map, take, get_or, sym, ap, ◌∙◌, subst, arith, Box, All, ◌&&◌, Global, and_parts, All-nil, All-cons}
use Rattle.std.proofs.lemmas.List.{length-append, length-map, get_or-map, take-map, take_all}
use Rattle.rbg_grammar.proofs.Common.{is_formed, are_formed, is_formed_action, has_two_rules, SpeltRule, SpeltRules, no_rules, more_rules, rules_after, SpeltAction, rule_of, action_of}
use Rattle.rbg_grammar.specs.declared.rule.ParsedAction.{ParsedAction}
use Rattle.rbg_grammar.specs.declared.rule.ParsedAction as actions
use Rattle.rbg_grammar.specs.declared.rule.ParsedRule.{ParsedRule}
use Rattle.rbg_grammar.specs.declared.rule.ParsedRule as rules
use Rattle.rbg_grammar.proofs.Trees.{rule_of-Act, rule_of-Then, rule_of-Or, rule_of-Star, action_of-PositivePattern, action_of-NegativePattern}
use Rattle.rbg_rules.specs.declared.rule.Action.{Action}
use Rattle.rbg_rules.specs.declared.rule.Action.TheVariants.{Positive, Negative}
use Rattle.rbg_rules.specs.declared.rule.Rule.{Rule}
use Rattle.rbg_game.proofs.NumberingCommon.{GameError, Names, OpensPattern, actions_in_list, AddsRule, AddsParts, HasFaultFrom}
use Rattle.rbg_base.proofs.CallerLemmas.{map-take_more}
use Rattle.rbg_game.proofs.StepLemmas.{parts_more, Opens, opens_positive, opens_negative, spelt_pattern_of}
use Rattle.rbg_game.proofs.StepFaults.{fault_in_parts, fault_inside}

-- What a spelt rule of each kind is.
pub is_act : (r : ParsedRule) (a : ParsedAction) → r ≡ rules.Act a → rule_of r ≡ SpeltRule.act (action_of a)
is_act r a is = ap rule_of is ∙ rule_of-Act a

pub is_then : (r : ParsedRule) (v : Vec ParsedRule Global) (ps : List ParsedRule) → r ≡ rules.Then v → ps ≡ v.items → rule_of r ≡ SpeltRule.sequence (rules_after no_rules (map rule_of ps))
is_then r v ps is same = ap rule_of is ∙ rule_of-Then v ∙ ap (λ (l : List ParsedRule). SpeltRule.sequence (rules_after no_rules (map rule_of l))) (sym same)

pub is_or : (r : ParsedRule) (v : Vec ParsedRule Global) (ps : List ParsedRule) → r ≡ rules.Or v → ps ≡ v.items → rule_of r ≡ SpeltRule.choice (rules_after no_rules (map rule_of ps))
is_or r v ps is same = ap rule_of is ∙ rule_of-Or v ∙ ap (λ (l : List ParsedRule). SpeltRule.choice (rules_after no_rules (map rule_of l))) (sym same)

pub is_star : (r : ParsedRule) (b : Box ParsedRule Global) (f : ParsedRule) → r ≡ rules.Star b → f ≡ b.value → rule_of r ≡ SpeltRule.star (rule_of f)
is_star r b f is same = ap rule_of is ∙ rule_of-Star b ∙ ap (λ (g : ParsedRule). SpeltRule.star (rule_of g)) (sym same)

pub positive_opens : (a : ParsedAction) (at : ℕ) (b : Box ParsedRule Global) (f : ParsedRule) → a ≡ actions.PositivePattern at b → f ≡ b.value → Opens (action_of a) at (rule_of f) Positive
positive_opens a at b f is same =
    subst (λ s. Opens s at (rule_of f) Positive) (sym (ap action_of is ∙ action_of-PositivePattern at b ∙ ap (λ (g : ParsedRule). SpeltAction.positive at (rule_of g)) (sym same))) opens_positive

pub negative_opens : (a : ParsedAction) (at : ℕ) (b : Box ParsedRule Global) (f : ParsedRule) → a ≡ actions.NegativePattern at b → f ≡ b.value → Opens (action_of a) at (rule_of f) Negative
negative_opens a at b f is same =
    subst (λ s. Opens s at (rule_of f) Negative) (sym (ap action_of is ∙ action_of-NegativePattern at b ∙ ap (λ (g : ParsedRule). SpeltAction.negative at (rule_of g)) (sym same))) opens_negative

-- The parts of a well-formed rule are well-formed.
pub opens_formed : (s : SpeltAction) (at : ℕ) (r : SpeltRule) (pattern : Action) → Opens s at r pattern → is_formed_action s ≡ true → is_formed r ≡ true
opens_formed _ at r _ opens_positive formed = formed
opens_formed _ at r _ opens_negative formed = formed

formed_parts : (first : SpeltRules) (rs : List SpeltRule) → are_formed (rules_after first rs) ≡ true → (are_formed first ≡ true) × All (λ r. is_formed r ≡ true) rs
formed_parts first [] formed = (formed, All-nil (λ r. is_formed r ≡ true))
formed_parts first (r ∷ rs) formed =
    let (before, others) = formed_parts (more_rules first r) rs formed in
    let (first_formed, here) = and_parts (are_formed first) (is_formed r) before in
    (first_formed, All-cons (λ r. is_formed r ≡ true) r rs here others)

all_formed : (ps : List ParsedRule) → (has_two_rules (rules_after no_rules (map rule_of ps)) && are_formed (rules_after no_rules (map rule_of ps))) ≡ true → All (λ part. is_formed (rule_of part) ≡ true) ps
all_formed ps formed k d below =
    let parts = and_parts (has_two_rules (rules_after no_rules (map rule_of ps))) (are_formed (rules_after no_rules (map rule_of ps))) formed in
    let (none, each) = formed_parts no_rules (map rule_of ps) parts.1 in
    subst (λ r. is_formed r ≡ true) (get_or-map rule_of ps k d (rule_of d) below) (each k (rule_of d) (omega (arith, length-map ps rule_of)))

pub then_formed : (r : ParsedRule) (v : Vec ParsedRule Global) (ps : List ParsedRule) → r ≡ rules.Then v → ps ≡ v.items → is_formed (rule_of r) ≡ true → All (λ part. is_formed (rule_of part) ≡ true) ps
then_formed r v ps is same formed = all_formed ps (sym (ap is_formed (is_then r v ps is same)) ∙ formed)

pub or_formed : (r : ParsedRule) (v : Vec ParsedRule Global) (ps : List ParsedRule) → r ≡ rules.Or v → ps ≡ v.items → is_formed (rule_of r) ≡ true → All (λ part. is_formed (rule_of part) ≡ true) ps
or_formed r v ps is same formed = all_formed ps (sym (ap is_formed (is_or r v ps is same)) ∙ formed)

-- A loop over parts.
pub part_formed : (ps : List ParsedRule) (k : ℕ) (p : ParsedRule) → All (λ part. is_formed (rule_of part) ≡ true) ps → k < length ps → p ≡ get_or ps k p → is_formed (rule_of p) ≡ true
part_formed ps k p all below is = subst (λ (q : ParsedRule). is_formed (rule_of q) ≡ true) (sym is) (all k p below)

pub next_part : (names : Names) (left : ℕ) (ps : List ParsedRule) (k : ℕ) (p : ParsedRule) (old mid new : List Action) (xs : List Rule) (x : Rule) → k < length ps → p ≡ get_or ps k p → AddsParts names left (map rule_of (take k ps)) old mid xs → AddsRule names left (rule_of p) mid new x → AddsParts names left (map rule_of (take (k + 1) ps)) old new (xs ++ x ∷ [])
next_part names left ps k p old mid new xs x below is so_far adds = rw (map-take_more rule_of ps k p below is) (parts_more names left (map rule_of (take k ps)) (rule_of p) old mid new xs x so_far adds)

pub fault_of_next : (names : Names) (left : ℕ) (ps : List ParsedRule) (k : ℕ) (p : ParsedRule) (old mid : List Action) (xs : List Rule) (error : GameError) → k < length ps → p ≡ get_or ps k p → AddsParts names left (map rule_of (take k ps)) old mid xs → HasFaultFrom names left (length mid) (rule_of p) error → HasFaultFrom names left (length old) (SpeltRule.sequence (rules_after no_rules (map rule_of ps))) error
fault_of_next names left ps k p old mid xs error below is so_far h =
    let same : get_or (map rule_of ps) k (rule_of p) ≡ rule_of p = get_or-map rule_of ps k p (rule_of p) below ∙ ap rule_of (sym is) in
    let count : length mid ≡ length old + actions_in_list (take k (map rule_of ps)) = so_far.count ∙ ap (λ l. length old + actions_in_list l) (sym (take-map rule_of k ps)) in
    fault_in_parts names left (length old) (map rule_of ps) k (rule_of p) error (omega (arith, length-map ps rule_of)) same (subst (λ n. HasFaultFrom names left n (rule_of p) error) count h)

pub all_parts : (names : Names) (left : ℕ) (ps : List ParsedRule) (k : ℕ) (old new : List Action) (xs : List Rule) → length ps ≤ k → AddsParts names left (map rule_of (take k ps)) old new xs → AddsParts names left (map rule_of ps) old new xs
all_parts names left ps k old new xs done h = subst (λ (l : List ParsedRule). AddsParts names left (map rule_of l) old new xs) (take_all k ps done) h

-- What is wrong inside a pattern that was opened.
pub fault_of_inside : (names : Names) (left : ℕ) (s : SpeltAction) (at : ℕ) (r : SpeltRule) (pattern : Action) (old mid : List Action) (p : ℕ) (error : GameError) → Opens s at r pattern → OpensPattern left pattern old mid p → HasFaultFrom names (left - 1) (length mid) r error → HasFaultFrom names left (length old) (SpeltRule.act s) error
fault_of_inside names left s at r pattern old mid p error opens h fault =
    let long : length mid ≡ length old + 1 = omega (arith, ap length h.added, length-append old (pattern ∷ [])) in
    let few : left ≡ suc (left - 1) = omega (arith, h.some_left) in
    fault_inside names left (left - 1) (length old) s at r error (spelt_pattern_of s at r pattern opens) few (subst (λ n. HasFaultFrom names (left - 1) n r error) long fault)
