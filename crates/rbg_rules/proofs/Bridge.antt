-- The equations of the translation, for each kind of node. Nothing else looks into how the program's trees are built.
use Rattle.std.proofs.Common.{◌≡◌, ℕ, List, map, ap, ◌∙◌, Vec, Box, Global}
use Rattle.rbg_rules.proofs.Common.{Arithmetic, Number, outs-Number, Variable, outs-Variable, PieceCount, outs-PieceCount, Negated, outs-Negated, Chain, outs-Chain, Arithmetic-F, Operation-F, out-Arithmetic, out-Operation, roll-Operation, out-roll-Operation, fold_out-Arithmetic, fold_out-Operation, map-Arithmetic, map-Operation, Operation, Action, Rule, Rule-F, out-Rule, Act, outs-Act, Pattern, outs-Pattern, Then, outs-Then, Or, outs-Or, Star, outs-Star, fold_out-Rule, map-Rule}
use Rattle.rbg_rules.specs.Expression.{AbstractArithmetic, number, variable, piece_count, negated, Expression, sequence_of, choice_of, star}
use Rattle.rbg_rules.specs.Translation.{Change, changed, operated, arithmetic_step, operation_step, arithmetic_of, operation_of, rule_step, action_at, act_of, pattern_of, expression_of}

-- One node of arithmetic with the meanings of its parts.
abbrev opened_arithmetic : Arithmetic-F Arithmetic Operation → Arithmetic-F AbstractArithmetic Change
opened_arithmetic x = map-Arithmetic Arithmetic Operation AbstractArithmetic Change arithmetic_of operation_of x

abbrev opened_operation : Operation-F Arithmetic Operation → Operation-F AbstractArithmetic Change
opened_operation x = map-Operation Arithmetic Operation AbstractArithmetic Change arithmetic_of operation_of x

arithmetic_of_out : (e : Arithmetic) → arithmetic_of e ≡ arithmetic_step (opened_arithmetic (out-Arithmetic e))
unfolding arithmetic_of operation_of
arithmetic_of_out e = fold_out-Arithmetic AbstractArithmetic Change arithmetic_step operation_step e

arithmetic_of_layer : (e : Arithmetic) (x : Arithmetic-F Arithmetic Operation) → out-Arithmetic e ≡ x → arithmetic_of e ≡ arithmetic_step (opened_arithmetic x)
arithmetic_of_layer e x is = arithmetic_of_out e ∙ ap (λ (y : Arithmetic-F Arithmetic Operation). arithmetic_step (opened_arithmetic y)) is

pub arithmetic_of-Number : (n : ℕ) → arithmetic_of (Number n) ≡ number n
arithmetic_of-Number n = arithmetic_of_layer (Number n) (Arithmetic-F.Number n) (outs-Number n)

pub arithmetic_of-Variable : (v : ℕ) → arithmetic_of (Variable v) ≡ variable v
arithmetic_of-Variable v = arithmetic_of_layer (Variable v) (Arithmetic-F.Variable v) (outs-Variable v)

pub arithmetic_of-PieceCount : (p : ℕ) → arithmetic_of (PieceCount p) ≡ piece_count p
arithmetic_of-PieceCount p = arithmetic_of_layer (PieceCount p) (Arithmetic-F.PieceCount p) (outs-PieceCount p)

pub arithmetic_of-Negated : (e : Box Arithmetic Global) → arithmetic_of (Negated e) ≡ negated (arithmetic_of e.value)
arithmetic_of-Negated e = arithmetic_of_layer (Negated e) (Arithmetic-F.Negated e) (outs-Negated e)

pub arithmetic_of-Chain : (first : Box Arithmetic Global) (rest : Vec Operation Global) → arithmetic_of (Chain first rest) ≡ changed (arithmetic_of first.value) (map operation_of rest.items)
arithmetic_of-Chain first rest = arithmetic_of_layer (Chain first rest) (Arithmetic-F.Chain first rest) (outs-Chain first rest)

pub operation_of_out : (o : Operation) → operation_of o ≡ (λ (so_far : AbstractArithmetic). operated (out-Operation o).operator so_far (arithmetic_of (out-Operation o).operand))
unfolding arithmetic_of operation_of
operation_of_out o = fold_out-Operation AbstractArithmetic Change arithmetic_step operation_step o

pub operation_of_roll : (x : Operation-F Arithmetic Operation) → operation_of (roll-Operation x) ≡ (λ (so_far : AbstractArithmetic). operated x.operator so_far (arithmetic_of x.operand))
operation_of_roll x = operation_of_out (roll-Operation x) ∙ ap (λ (y : Operation-F Arithmetic Operation). (let change : Change = λ so_far. operated y.operator so_far (arithmetic_of y.operand) in change)) (out-roll-Operation x)

-- One node of the rules with the meanings of its parts.
abbrev opened_rule : List Action → Rule-F Rule → Rule-F Expression
opened_rule actions x = map-Rule Rule Expression (expression_of actions) x

expression_of_out : (actions : List Action) (r : Rule) → expression_of actions r ≡ rule_step actions (opened_rule actions (out-Rule r))
unfolding expression_of
expression_of_out actions r = fold_out-Rule Expression (rule_step actions) r

expression_of_layer : (actions : List Action) (r : Rule) (x : Rule-F Rule) → out-Rule r ≡ x → expression_of actions r ≡ rule_step actions (opened_rule actions x)
expression_of_layer actions r x is = expression_of_out actions r ∙ ap (λ (y : Rule-F Rule). rule_step actions (opened_rule actions y)) is

pub expression_of-Act : (actions : List Action) (p : ℕ) → expression_of actions (Act p) ≡ act_of p (action_at actions p)
expression_of-Act actions p = expression_of_layer actions (Act p) (Rule-F.Act p) (outs-Act p)

pub expression_of-Pattern : (actions : List Action) (p : ℕ) (inside : Box Rule Global) → expression_of actions (Pattern p inside) ≡ pattern_of p (action_at actions p) (expression_of actions inside.value)
expression_of-Pattern actions p inside = expression_of_layer actions (Pattern p inside) (Rule-F.Pattern p inside) (outs-Pattern p inside)

pub expression_of-Then : (actions : List Action) (parts : Vec Rule Global) → expression_of actions (Then parts) ≡ sequence_of (map (expression_of actions) parts.items)
expression_of-Then actions parts = expression_of_layer actions (Then parts) (Rule-F.Then parts) (outs-Then parts)

pub expression_of-Or : (actions : List Action) (parts : Vec Rule Global) → expression_of actions (Or parts) ≡ choice_of (map (expression_of actions) parts.items)
expression_of-Or actions parts = expression_of_layer actions (Or parts) (Rule-F.Or parts) (outs-Or parts)

pub expression_of-Star : (actions : List Action) (part : Box Rule Global) → expression_of actions (Star part) ≡ star (expression_of actions part.value)
expression_of-Star actions part = expression_of_layer actions (Star part) (Rule-F.Star part) (outs-Star part)

-- All of them, to be named on a function.
pub ruleset translation = (arithmetic_of-Number, arithmetic_of-Variable, arithmetic_of-PieceCount, arithmetic_of-Negated, arithmetic_of-Chain, operation_of_roll, expression_of-Act, expression_of-Pattern, expression_of-Then, expression_of-Or, expression_of-Star)
