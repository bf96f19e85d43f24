-- Why a rule has no numbers: the fault that an error names, at its place.
use Rattle.std.specs.Prelude.{◌≡◌, ℕ, zero, suc, ◌+◌, ◌<◌, ◌≤◌, ◌^◌, List, [], ◌∷◌, Option, Some, Contains}
use Rattle.rbg_grammar.specs.Tree.{SpeltName, SpeltNumber, SpeltExpression, SpeltOperands, more_operands}
use Rattle.rbg_grammar.specs.Tree.{SpeltRule, SpeltRules, no_rules, more_rules, SpeltAction}
use Rattle.rbg_base.specs.declared.operator.Operator.{Operator}
use Rattle.rbg_base.specs.declared.relation.Relation.{Relation}
use Rattle.rbg_rules.specs.Meaning.{most_positions, most_nested_patterns}
use Rattle.rbg_game.specs.declared.game_error.GameError.{GameError}
use Rattle.rbg_game.specs.declared.game_error.GameError.TheVariants.{UnknownName, Bound, SwitchInPattern, PatternTooDeep, TooMany, Memory}
use Rattle.rbg_game.specs.declared.game_error.Thing.TheVariants.{Positions}
use Rattle.rbg_game.specs.NameNumbers.{Names}

-- Names.

-- A name that isn't there: one of the names, at this offset, is not among those that are known.
pub record HasUnknown (known : List (List ℕ)) (names : List SpeltName) (at : ℕ) : Type 0 where
  pub name : SpeltName
  pub stands : Contains names name
  pub unknown : ¬ Contains known name.text
  pub place : name.at ≡ at

-- What a name is used for, outside the expressions of arithmetic.
pub data Purpose : Type 0 where
  as_direction as_piece as_player as_variable : Purpose

-- the names that serve the purpose
abbrev pub names_for : Names → Purpose → List (List ℕ)
names_for names as_direction = names.directions
names_for names as_piece = names.pieces
names_for names as_player = names.players
names_for names as_variable = names.variables

-- The action uses these names for the purpose.
pub data Uses : SpeltAction → Purpose → List SpeltName → Type 0 where
  shifts : {n : SpeltName}
      → Uses (SpeltAction.shift n) as_direction (n ∷ [])
  stands_on : {ns : List SpeltName}
      → Uses (SpeltAction.on ns) as_piece ns
  puts : {n : SpeltName}
      → Uses (SpeltAction.off n) as_piece (n ∷ [])
  assigns : {n : SpeltName} {e : SpeltExpression}
      → Uses (SpeltAction.assign n e) as_variable (n ∷ [])
  gives_turn : {at : ℕ} {n : SpeltName}
      → Uses (SpeltAction.switch at (Some n)) as_player (n ∷ [])

-- Arithmetic.

-- The part is the expression itself, or is inside it.
mutual
  pub data HasPart : SpeltExpression → SpeltExpression → Type 0 where
    itself : {e : SpeltExpression}
        → HasPart e e
    in_negated : {e part : SpeltExpression}
        → HasPart e part
        → HasPart (SpeltExpression.negated e) part
    in_chain : {os : SpeltOperands} {part : SpeltExpression}
        → SomeOperandHasPart os part
        → HasPart (SpeltExpression.chain os) part

  pub data SomeOperandHasPart : SpeltOperands → SpeltExpression → Type 0 where
    earlier_operand : {os : SpeltOperands} {operator : Operator} {e part : SpeltExpression}
        → SomeOperandHasPart os part
        → SomeOperandHasPart (more_operands os operator e) part
    last_operand : {os : SpeltOperands} {operator : Operator} {e part : SpeltExpression}
        → HasPart e part
        → SomeOperandHasPart (more_operands os operator e) part

-- A name in the expression, at this offset, is neither a variable nor a piece.
pub record HasUnknownValue (names : Names) (e : SpeltExpression) (at : ℕ) : Type 0 where
  pub name : SpeltName
  pub stands : HasPart e (SpeltExpression.name name)
  pub no_variable : ¬ Contains names.variables name.text
  pub no_piece : ¬ Contains names.pieces name.text
  pub place : name.at ≡ at

-- A number in the expression, at this offset, does not fit signed 64 bits.
pub record HasGreatNumber (e : SpeltExpression) (at : ℕ) : Type 0 where
  pub number : SpeltNumber
  pub stands : HasPart e (SpeltExpression.number number)
  pub too_great : (value : ℕ) → number.value ≡ Some value → 2 ^ 63 ≤ value
  pub place : number.at ≡ at

-- What is wrong with an expression, if these are the names.
pub data HasArithmeticFault (names : Names) (e : SpeltExpression) : GameError → Type 0 where
  unknown_value : {at : ℕ}
      → HasUnknownValue names e at
      → HasArithmeticFault names e (UnknownName at)
  great_number : {at : ℕ}
      → HasGreatNumber e at
      → HasArithmeticFault names e (Bound at)
  arithmetic_memory :
      HasArithmeticFault names e Memory

-- The action has this expression: it assigns its value, or compares it.
pub data HasExpression : SpeltAction → SpeltExpression → Type 0 where
  assigned : {n : SpeltName} {e : SpeltExpression}
      → HasExpression (SpeltAction.assign n e) e
  left_side : {e f : SpeltExpression} {relation : Relation}
      → HasExpression (SpeltAction.compare e relation f) e
  right_side : {e f : SpeltExpression} {relation : Relation}
      → HasExpression (SpeltAction.compare e relation f) f

-- Rules.

-- The action is one of the rule.
mutual
  pub data HasSpeltAction : SpeltRule → SpeltAction → Type 0 where
    this : {a : SpeltAction}
        → HasSpeltAction (SpeltRule.act a) a
    in_sequence : {rs : SpeltRules} {a : SpeltAction}
        → SomeHasSpeltAction rs a
        → HasSpeltAction (SpeltRule.sequence rs) a
    in_choice : {rs : SpeltRules} {a : SpeltAction}
        → SomeHasSpeltAction rs a
        → HasSpeltAction (SpeltRule.choice rs) a
    in_star : {r : SpeltRule} {a : SpeltAction}
        → HasSpeltAction r a
        → HasSpeltAction (SpeltRule.star r) a
    in_positive : {at : ℕ} {r : SpeltRule} {a : SpeltAction}
        → HasSpeltAction r a
        → HasSpeltAction (SpeltRule.act (SpeltAction.positive at r)) a
    in_negative : {at : ℕ} {r : SpeltRule} {a : SpeltAction}
        → HasSpeltAction r a
        → HasSpeltAction (SpeltRule.act (SpeltAction.negative at r)) a

  pub data SomeHasSpeltAction : SpeltRules → SpeltAction → Type 0 where
    earlier : {rs : SpeltRules} {r : SpeltRule} {a : SpeltAction}
        → SomeHasSpeltAction rs a
        → SomeHasSpeltAction (more_rules rs r) a
    last : {rs : SpeltRules} {r : SpeltRule} {a : SpeltAction}
        → HasSpeltAction r a
        → SomeHasSpeltAction (more_rules rs r) a

-- The action is the pattern at this offset, positive or negative, of that rule.
pub data IsSpeltPattern : SpeltAction → ℕ → SpeltRule → Type 0 where
  positive_pattern : {at : ℕ} {r : SpeltRule}
      → IsSpeltPattern (SpeltAction.positive at r) at r
  negative_pattern : {at : ℕ} {r : SpeltRule}
      → IsSpeltPattern (SpeltAction.negative at r) at r

-- A pattern of the rule is the one at this offset, of the rule `inside`.
pub record HasPattern (r : SpeltRule) (at : ℕ) (inside : SpeltRule) : Type 0 where
  pub action : SpeltAction
  pub stands : HasSpeltAction r action
  pub is_pattern : IsSpeltPattern action at inside

-- The pattern at this offset is inside `outer` other patterns of the rule, or inside more.
pub data HasPatternInside : SpeltRule → (outer : ℕ) → (at : ℕ) → Type 0 where
  in_none : {r inside : SpeltRule} {at : ℕ}
      → HasPattern r at inside
      → HasPatternInside r zero at
  in_one_more : {r inside : SpeltRule} {outer at at_outer : ℕ}
      → HasPattern r at_outer inside
      → HasPatternInside inside outer at
      → HasPatternInside r (suc outer) at

-- The switch at this offset is in the rule.
pub record HasSwitch (r : SpeltRule) (at : ℕ) : Type 0 where
  pub player : Option SpeltName
  pub stands : HasSpeltAction r (SpeltAction.switch at player)

abbrev mutual
  -- how many actions a rule has, those inside its patterns too
  pub actions_in : SpeltRule → ℕ
  actions_in (SpeltRule.act a) = actions_of a
  actions_in (SpeltRule.sequence rs) = actions_in_all rs
  actions_in (SpeltRule.choice rs) = actions_in_all rs
  actions_in (SpeltRule.star r) = actions_in r

  pub actions_in_all : SpeltRules → ℕ
  actions_in_all no_rules = 0
  actions_in_all (more_rules rs r) = actions_in_all rs + actions_in r

  pub actions_of : SpeltAction → ℕ
  actions_of (SpeltAction.positive at r) = suc (actions_in r)
  actions_of (SpeltAction.negative at r) = suc (actions_in r)
  actions_of _ = 1

-- What is wrong with a rule, if these are the names.
--   unknown_use: an action uses a name that isn't there
--   in_arithmetic: an action has an expression with a fault
--   switch_in_pattern: a pattern has a switch inside
--   deep_pattern: a pattern is inside too many others
--   many_positions: there are too many actions
pub data HasRuleFault (names : Names) (rule : SpeltRule) : GameError → Type 0 where
  unknown_use : {action : SpeltAction} {purpose : Purpose} {used : List SpeltName} {at : ℕ}
      → HasSpeltAction rule action
      → Uses action purpose used
      → HasUnknown (names_for names purpose) used at
      → HasRuleFault names rule (UnknownName at)
  in_arithmetic : {action : SpeltAction} {e : SpeltExpression} {error : GameError}
      → HasSpeltAction rule action
      → HasExpression action e
      → HasArithmeticFault names e error
      → HasRuleFault names rule error
  switch_in_pattern : {at at_pattern : ℕ} {inside : SpeltRule}
      → HasPattern rule at_pattern inside
      → HasSwitch inside at
      → HasRuleFault names rule (SwitchInPattern at)
  deep_pattern : {at : ℕ}
      → HasPatternInside rule most_nested_patterns at
      → HasRuleFault names rule (PatternTooDeep at)
  many_positions :
      most_positions < actions_in rule
      → HasRuleFault names rule (TooMany Positions)
  rule_memory :
      HasRuleFault names rule Memory
