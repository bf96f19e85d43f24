-- Rules by numbers on the way: what a part of the rules adds to the table of actions.
use Rattle.std.specs.Prelude.{◌≡◌, ℕ, suc, ◌+◌, ◌<◌, ◌≤◌, List, [], ◌∷◌, ◌++◌, length, map, All}
use Rattle.std.specs.List.{range_with_len}
use Rattle.rbg_grammar.specs.Tree.{SpeltName, SpeltExpression, SpeltRule, SpeltAction}
use Rattle.rbg_rules.specs.Meaning.{AbstractAction, switch, positive, negative, Expression, act, skip, sequence, fail, choice, star, most_positions, most_nested_patterns, positions_of, IsWithin, expression_of}
use Rattle.rbg_rules.specs.declared.rule.Action.{Action}
use Rattle.rbg_rules.specs.declared.rule.Rule.{Rule}
use Rattle.rbg_game.specs.declared.game_error.GameError.{GameError}
use Rattle.rbg_game.specs.declared.game_error.GameError.TheVariants.{UnknownName, SwitchInPattern, PatternTooDeep, TooMany, Memory}
use Rattle.rbg_game.specs.declared.game_error.Thing.TheVariants.{Positions}
use Rattle.rbg_game.specs.NameNumbers.{Names}
use Rattle.rbg_game.specs.Rules.{RuleIs}
use Rattle.rbg_game.specs.RuleFaults.{HasUnknown, Purpose, names_for, Uses, HasExpression, HasArithmeticFault, HasSpeltAction, HasPattern, HasPatternInside, HasSwitch, actions_in}

abbrev mutual
  -- At most `left` patterns are opened, and no switch is in a pattern: if fewer than the maximum may be opened, one is
  -- open already.
  pub IsLawful : ℕ → Expression → Type 0
  IsLawful left (act p a) = IsLawfulAction left a
  IsLawful left (sequence x y) = IsLawful left x × IsLawful left y
  IsLawful left (choice x y) = IsLawful left x × IsLawful left y
  IsLawful left (star x) = IsLawful left x
  IsLawful left skip = Unit {0}
  IsLawful left fail = Unit {0}

  pub IsLawfulAction : ℕ → AbstractAction → Type 0
  IsLawfulAction left (switch n) = left ≡ most_nested_patterns
  IsLawfulAction left (positive x) = (below : ℕ) × (left ≡ suc below) × IsLawful below x
  IsLawfulAction left (negative x) = (below : ℕ) × (left ≡ suc below) × IsLawful below x
  IsLawfulAction left _ = Unit {0}

-- how many actions the rules have
abbrev pub actions_in_list : List SpeltRule → ℕ
actions_in_list [] = 0
actions_in_list (r ∷ rs) = actions_in r + actions_in_list rs

-- The expression has the meaning; its positions are the next `many` after those before, in order of text; and it is
-- allowed at a point at which `left` patterns may still be opened.
pub record Numbers (Is : Expression → Type 0) (left before many : ℕ) (x : Expression) : Type 0 where
  pub means : Is x
  pub positions : positions_of x ≡ range_with_len (before + 1) many
  pub lawful : IsLawful left x

-- The rule's actions are added to the table, and x is its tree.
pub record AddsRule (names : Names) (left : ℕ) (r : SpeltRule) (old new : List Action) (x : Rule) : Type 0 where
  pub made : List Action
  pub added : new ≡ old ++ made
  pub count : length new ≡ length old + actions_in r
  pub few : length new ≤ most_positions
  pub within : IsWithin (length new) x
  pub numbers : Numbers (RuleIs names r) left (length old) (actions_in r) (expression_of new x)

-- The rules by numbers, one after the other.
abbrev pub AreNumbered : Names → ℕ → List SpeltRule → ℕ → List Expression → Type 0
AreNumbered names left [] before [] = Unit {0}
AreNumbered names left [] before (x ∷ xs) = ⊥
AreNumbered names left (r ∷ rs) before [] = ⊥
AreNumbered names left (r ∷ rs) before (x ∷ xs) =
    Numbers (RuleIs names r) left before (actions_in r) x
    × AreNumbered names left rs (before + actions_in r) xs

-- The actions of all the rules are added to the table, and xs are their trees.
pub record AddsParts (names : Names) (left : ℕ) (rs : List SpeltRule) (old new : List Action) (xs : List Rule) : Type 0 where
  pub made : List Action
  pub added : new ≡ old ++ made
  pub count : length new ≡ length old + actions_in_list rs
  pub few : length new ≤ most_positions
  pub within : All (IsWithin (length new)) xs
  pub numbers : AreNumbered names left rs (length old) (map (expression_of new) xs)

-- What is wrong with a rule after `before` actions, if `left` patterns may still be opened.
pub data HasFaultFrom (names : Names) (left before : ℕ) (rule : SpeltRule) : GameError → Type 0 where
  from_use : {action : SpeltAction} {purpose : Purpose} {used : List SpeltName} {at : ℕ}
      → HasSpeltAction rule action
      → Uses action purpose used
      → HasUnknown (names_for names purpose) used at
      → HasFaultFrom names left before rule (UnknownName at)
  from_arithmetic : {action : SpeltAction} {e : SpeltExpression} {error : GameError}
      → HasSpeltAction rule action
      → HasExpression action e
      → HasArithmeticFault names e error
      → HasFaultFrom names left before rule error
  from_switch : {at : ℕ}
      → left < most_nested_patterns
      → HasSwitch rule at
      → HasFaultFrom names left before rule (SwitchInPattern at)
  from_inner_switch : {at at_pattern : ℕ} {inside : SpeltRule}
      → HasPattern rule at_pattern inside
      → HasSwitch inside at
      → HasFaultFrom names left before rule (SwitchInPattern at)
  from_depth : {at : ℕ}
      → HasPatternInside rule left at
      → HasFaultFrom names left before rule (PatternTooDeep at)
  from_positions :
      most_positions < before + actions_in rule
      → HasFaultFrom names left before rule (TooMany Positions)
  from_memory :
      HasFaultFrom names left before rule Memory
