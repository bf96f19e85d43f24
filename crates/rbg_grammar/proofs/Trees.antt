-- What the trees of the code mean, level by level.
use Rattle.rbg_base.proofs.Common.{◌≡◌, ◌∙◌, ℕ, List, [], ◌∷◌, Option, length, map, option_map, rules, refl, arith, Vec, vec_len, length-map, Global, Box}
use Rattle.rbg_grammar.proofs.Common.{in_sequence, in_choice, SpeltExpression, SpeltRule, SpeltAction, no_rules, no_operands, rules_after, operands_after, in_chain, name_of, number_of, expression_of, operand_of, action_of, rule_of, Name, Number, Expression, Operand, ParsedRule, ParsedAction}
use Rattle.rbg_grammar.specs.declared.expression.Expression as expressions
use Rattle.rbg_base.specs.declared.relation.Relation.{Relation}
use Rattle.rbg_grammar.specs.declared.rule.ParsedRule as rules'
use Rattle.rbg_grammar.specs.declared.rule.ParsedAction as actions

pub rule_of-Act : (a : ParsedAction) → rule_of (rules'.Act a) ≡ SpeltRule.act (action_of a)
unfolding rule_of action_of
rule_of-Act a = search (rules, rules'.the_lemmas)

pub rule_of-Then : (v : Vec ParsedRule Global) → rule_of (rules'.Then v) ≡ SpeltRule.sequence (rules_after no_rules (map rule_of v.items))
unfolding rule_of
rule_of-Then v = search (rules, rules'.the_lemmas)

pub rule_of-Or : (v : Vec ParsedRule Global) → rule_of (rules'.Or v) ≡ SpeltRule.choice (rules_after no_rules (map rule_of v.items))
unfolding rule_of
rule_of-Or v = search (rules, rules'.the_lemmas)

pub rule_of-Star : (b : Box ParsedRule Global) → rule_of (rules'.Star b) ≡ SpeltRule.star (rule_of b.value)
unfolding rule_of
rule_of-Star b = search (rules, rules'.the_lemmas)

pub action_of-Shift : (n : Name) → action_of (actions.Shift n) ≡ SpeltAction.shift (name_of n)
unfolding action_of
action_of-Shift n = search (rules, actions.the_lemmas)

pub action_of-On : (v : Vec Name Global) → action_of (actions.On v) ≡ SpeltAction.on (map name_of v.items)
unfolding action_of
action_of-On v = search (rules, actions.the_lemmas)

pub action_of-Off : (n : Name) → action_of (actions.Off n) ≡ SpeltAction.off (name_of n)
unfolding action_of
action_of-Off n = search (rules, actions.the_lemmas)

pub action_of-Assign : (n : Name) (e : Expression) → action_of (actions.Assign n e) ≡ SpeltAction.assign (name_of n) (expression_of e)
unfolding action_of
action_of-Assign n e = search (rules, actions.the_lemmas)

pub action_of-Compare : (e : Expression) (r : Relation) (f : Expression) → action_of (actions.Compare e r f) ≡ SpeltAction.compare (expression_of e) r (expression_of f)
unfolding action_of
action_of-Compare e r f = search (rules, actions.the_lemmas)

pub action_of-Switch : (at : ℕ) (o : Option Name) → action_of (actions.Switch at o) ≡ SpeltAction.switch at (option_map name_of o)
unfolding action_of
action_of-Switch at o = search (rules, actions.the_lemmas)

pub action_of-PositivePattern : (at : ℕ) (b : Box ParsedRule Global) → action_of (actions.PositivePattern at b) ≡ SpeltAction.positive at (rule_of b.value)
unfolding action_of rule_of
action_of-PositivePattern at b = search (rules, actions.the_lemmas)

pub action_of-NegativePattern : (at : ℕ) (b : Box ParsedRule Global) → action_of (actions.NegativePattern at b) ≡ SpeltAction.negative at (rule_of b.value)
unfolding action_of rule_of
action_of-NegativePattern at b = search (rules, actions.the_lemmas)

pub expression_of-Number : (n : Number) → expression_of (expressions.Number n) ≡ SpeltExpression.number (number_of n)
unfolding expression_of
expression_of-Number n = search (rules, expressions.the_lemmas)

pub expression_of-Name : (n : Name) → expression_of (expressions.Name n) ≡ SpeltExpression.name (name_of n)
unfolding expression_of
expression_of-Name n = search (rules, expressions.the_lemmas)

pub expression_of-Negated : (b : Box Expression Global) → expression_of (expressions.Negated b) ≡ SpeltExpression.negated (expression_of b.value)
unfolding expression_of
expression_of-Negated b = search (rules, expressions.the_lemmas)

pub expression_of-Chain : (v : Vec Operand Global) → expression_of (expressions.Chain v) ≡ SpeltExpression.chain (operands_after no_operands (map operand_of v.items))
unfolding expression_of
expression_of-Chain v = search (rules, expressions.the_lemmas)

-- rules that are one action
pub ruleset atoms = (rule_of-Act, action_of-Shift, action_of-On, action_of-Off, action_of-Switch)

-- rules that are one action with arithmetic or a pattern
pub ruleset inner_atoms = (rule_of-Act, action_of-Assign, action_of-Compare, action_of-PositivePattern, action_of-NegativePattern)

-- the star of a rule
pub ruleset stars = (rule_of-Star)

-- expressions without parts that are lists
pub ruleset leaves = (expression_of-Number, expression_of-Name, expression_of-Negated)

-- two functions of a list that are the same if it doesn't have one item
not_one : {A B : Type 0} (f g : List A → B) → f [] ≡ g [] → ((x y : A) (xs : List A) → f (x ∷ y ∷ xs) ≡ g (x ∷ y ∷ xs)) → (xs : List A) → (length xs ≡ 1 → ⊥) → f xs ≡ g xs
not_one f g none several [] other = none
not_one f g none several (x ∷ []) other = absurd (other refl)
not_one f g none several (x ∷ y ∷ xs) other = several x y xs

views_not_one : {A B : Type 0} (f : A → B) (v : Vec A Global) → (vec_len v ≡ 1 → ⊥) → length (map f v.items) ≡ 1 → ⊥
views_not_one f v other one = other (omega (arith, one, length-map v.items f, v.ok.0))

pub rule_of-in_sequence : (v : Vec ParsedRule Global) → (vec_len v ≡ 1 → ⊥) → rule_of (rules'.Then v) ≡ in_sequence (map rule_of v.items)
rule_of-in_sequence v several = rule_of-Then v ∙ not_one (λ rs. SpeltRule.sequence (rules_after no_rules rs)) in_sequence refl (λ r s rs. refl) (map rule_of v.items) (views_not_one rule_of v several)

pub ruleset sequences = (rule_of-in_sequence)

pub expression_of-in_chain : (v : Vec Operand Global) → (vec_len v ≡ 1 → ⊥) → expression_of (expressions.Chain v) ≡ in_chain (map operand_of v.items)
expression_of-in_chain v several =
    expression_of-Chain v ∙ not_one (λ os. SpeltExpression.chain (operands_after no_operands os)) in_chain refl (λ o p os. refl) (map operand_of v.items) (views_not_one operand_of v several)

pub ruleset chains = (expression_of-in_chain)

pub rule_of-in_choice : (v : Vec ParsedRule Global) → (vec_len v ≡ 1 → ⊥) → rule_of (rules'.Or v) ≡ in_choice (map rule_of v.items)
rule_of-in_choice v several = rule_of-Or v ∙ not_one (λ rs. SpeltRule.choice (rules_after no_rules rs)) in_choice refl (λ r s rs. refl) (map rule_of v.items) (views_not_one rule_of v several)

pub ruleset choices = (rule_of-in_choice)
