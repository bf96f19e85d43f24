-- What the program's tree of checked rules means: the one translation to the mathematics. Each function goes over the
-- tree from its leaves; a step has what one node makes of the results of its parts.
use Rattle.std.specs.Prelude.{ℕ, zero, suc, List, fold, Option, Some, None, slice_get, Bool, true, false, if◌then◌else◌}
use Rattle.rbg_rules.specs.declared.arithmetic.Arithmetic.{Arithmetic}
use Rattle.rbg_rules.specs.declared.arithmetic.Arithmetic.TheOpen.{Arithmetic-F, Operation-F}
use Rattle.rbg_rules.specs.declared.arithmetic.Arithmetic.TheFolds.{fold-Arithmetic, fold-Operation}
use Rattle.rbg_rules.specs.declared.arithmetic.Operation.{Operation}
use Rattle.rbg_base.specs.declared.operator.Operator.{Operator}
use Rattle.rbg_base.specs.declared.operator.Operator.TheVariants.{Plus, Minus, Times, Over}
use Rattle.rbg_rules.specs.declared.rule.Action.{Action}
use Rattle.rbg_rules.specs.declared.rule.Rule.{Rule}
use Rattle.rbg_rules.specs.declared.rule.Rules.{Rules}
use Rattle.rbg_rules.specs.declared.rule.Action.TheVariants.{Shift, On, Off, Assign, Compare, Switch, Positive, Negative}
use Rattle.rbg_rules.specs.declared.rule.Rule.TheOpen.{Rule-F}
use Rattle.rbg_rules.specs.declared.rule.Rule.TheFolds.{fold-Rule}
use Rattle.rbg_rules.specs.Expression.{AbstractArithmetic, number, variable, piece_count, negated, sum, difference, product, quotient, AbstractAction, shift, on, off, assignment, comparison, switch, positive, negative, Expression, act, skip, fail, sequence_of, choice_of, star}

-- What an operator makes of a value and of its operand.
abbrev pub operated : Operator → AbstractArithmetic → AbstractArithmetic → AbstractArithmetic
operated Plus e f = sum e f
operated Minus e f = difference e f
operated Times e f = product e f
operated Over e f = quotient e f

-- An operation means what it makes of the value so far.
abbrev pub Change : Type 0
Change = AbstractArithmetic → AbstractArithmetic

-- A chain takes its operations from the left.
abbrev pub changed : AbstractArithmetic → List Change → AbstractArithmetic
changed first changes = fold (λ so_far change. change so_far) first changes

abbrev pub operation_step : Operation-F AbstractArithmetic Change → Change
operation_step o = λ so_far. operated o.operator so_far o.operand

abbrev pub arithmetic_step : Arithmetic-F AbstractArithmetic Change → AbstractArithmetic
arithmetic_step (Arithmetic-F.Number n) = number n
arithmetic_step (Arithmetic-F.Variable v) = variable v
arithmetic_step (Arithmetic-F.PieceCount p) = piece_count p
arithmetic_step (Arithmetic-F.Negated e) = negated e.value
arithmetic_step (Arithmetic-F.Chain first rest) = changed first.value rest.items

unfoldable pub arithmetic_of : Arithmetic → AbstractArithmetic
arithmetic_of e = fold-Arithmetic AbstractArithmetic Change arithmetic_step operation_step e

unfoldable pub operation_of : Operation → Change
operation_of o = fold-Operation AbstractArithmetic Change arithmetic_step operation_step o

-- The action, if x is the inside of a pattern.
abbrev pub action_of : Action → Expression → AbstractAction
action_of (Shift d) x = shift d
action_of (On pieces) x = on pieces.items
action_of (Off p) x = off p
action_of (Assign v e) x = assignment v (arithmetic_of e)
action_of (Compare e r f) x = comparison (arithmetic_of e) r (arithmetic_of f)
action_of (Switch n) x = switch n
action_of Positive x = positive x
action_of Negative x = negative x

-- whether the action is a pattern
abbrev pub shows_pattern : Action → Bool
shows_pattern Positive = true
shows_pattern Negative = true
shows_pattern (Shift d) = false
shows_pattern (On pieces) = false
shows_pattern (Off p) = false
shows_pattern (Assign v e) = false
shows_pattern (Compare e r f) = false
shows_pattern (Switch n) = false

-- The action at a position of the table, which begins at position 1.
abbrev pub action_at : List Action → ℕ → Option Action
action_at actions zero = None
action_at actions (suc k) = slice_get actions k

-- A position outside a pattern's is that of an action which is no pattern. (No game has the empty sum.)
abbrev pub act_of : ℕ → Option Action → Expression
act_of p (Some a) = if shows_pattern a then fail else act p (action_of a skip)
act_of p None = fail

-- A pattern's position is that of a pattern.
abbrev pub pattern_of : ℕ → Option Action → Expression → Expression
pattern_of p (Some a) x = if shows_pattern a then act p (action_of a x) else fail
pattern_of p None x = fail

abbrev pub rule_step : List Action → Rule-F Expression → Expression
rule_step actions (Rule-F.Act p) = act_of p (action_at actions p)
rule_step actions (Rule-F.Pattern p inside) = pattern_of p (action_at actions p) inside.value
rule_step actions (Rule-F.Then parts) = sequence_of parts.items
rule_step actions (Rule-F.Or parts) = choice_of parts.items
rule_step actions (Rule-F.Star part) = star part.value

-- A tree with the actions of its positions.
unfoldable pub expression_of : List Action → Rule → Expression
expression_of actions tree = fold-Rule Expression (rule_step actions) tree

abbrev pub rules_of : Rules → Expression
rules_of rules = expression_of rules.actions.items rules.tree
