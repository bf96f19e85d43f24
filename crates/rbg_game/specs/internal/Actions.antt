-- One action by numbers, and what is wrong with one.
use Rattle.std.specs.Prelude.{◌≡◌, ℕ, ◌+◌, ◌<◌, ◌≤◌, List, [], ◌∷◌, ◌++◌, Option, Some, None, Bool, true, false, length}
use Rattle.rbg_grammar.specs.Tree.{SpeltName, SpeltExpression, SpeltAction}
use Rattle.rbg_rules.specs.Meaning.{skip, most_positions, most_nested_patterns, action_of, shows_pattern}
use Rattle.rbg_rules.specs.declared.rule.Action.{Action}
use Rattle.rbg_game.specs.declared.game_error.GameError.{GameError}
use Rattle.rbg_game.specs.declared.game_error.GameError.TheVariants.{SwitchInPattern, PatternTooDeep, TooMany, Memory}
use Rattle.rbg_game.specs.declared.game_error.Thing.TheVariants.{Positions}
use Rattle.rbg_game.specs.NameNumbers.{Names, IsNumberOf}
use Rattle.rbg_game.specs.Rules.{ActionIs}
use Rattle.rbg_game.specs.RuleFaults.{Purpose, names_for, Uses, HasExpression, HasArithmeticFault}
use Rattle.rbg_game.specs.NameTables.{HasLookUpFault}
use Rattle.rbg_game.specs.internal.Steps.{IsLawfulAction}

-- whether the action is a pattern
abbrev pub is_spelt_pattern : SpeltAction → Bool
is_spelt_pattern (SpeltAction.positive at r) = true
is_spelt_pattern (SpeltAction.negative at r) = true
is_spelt_pattern _ = false

-- the number of a player, from 1 on, or that of the keeper
abbrev pub IsPlayer : List (List ℕ) → Option SpeltName → ℕ → Type 0
IsPlayer list None n = n ≡ 0
IsPlayer list (Some name) n = (k : ℕ) × IsNumberOf list name k × (n ≡ k + 1)

-- the player that has to be looked up; the keeper needs none
abbrev pub player_names : Option SpeltName → List SpeltName
player_names None = []
player_names (Some name) = name ∷ []

-- What is wrong with an action, if `left` patterns may still be opened.
pub data HasActionFault (names : Names) (left : ℕ) : SpeltAction → GameError → Type 0 where
  of_use : {action : SpeltAction} {purpose : Purpose} {used : List SpeltName} {error : GameError}
      → Uses action purpose used
      → HasLookUpFault (names_for names purpose) used error
      → HasActionFault names left action error
  of_expression : {action : SpeltAction} {e : SpeltExpression} {error : GameError}
      → HasExpression action e
      → HasArithmeticFault names e error
      → HasActionFault names left action error
  of_switch : {at : ℕ} {player : Option SpeltName}
      → left < most_nested_patterns
      → HasActionFault names left (SpeltAction.switch at player) (SwitchInPattern at)
  no_memory : {action : SpeltAction}
      → HasActionFault names left action Memory

-- The action by numbers, which is no pattern and is allowed at a point at which `left` patterns may still be opened.
pub record IsActionHere (names : Names) (left : ℕ) (spelt : SpeltAction) (action : Action) : Type 0 where
  pub is_action : ActionIs names spelt (action_of action skip)
  pub no_pattern : shows_pattern action ≡ false
  pub lawful : IsLawfulAction left (action_of action skip)

-- The pattern is added to the table, and p is its position.
pub record OpensPattern (left : ℕ) (pattern : Action) (old new : List Action) (p : ℕ) : Type 0 where
  pub some_left : 0 < left
  pub added : new ≡ old ++ pattern ∷ []
  pub few : length new ≤ most_positions
  pub position : p ≡ length new

-- Why the pattern at this offset is not added to a table of `before` actions.
pub data HasOpeningFault (left at before : ℕ) : GameError → Type 0 where
  too_many :
      most_positions ≤ before
      → HasOpeningFault left at before (TooMany Positions)
  too_deep :
      left ≡ 0
      → HasOpeningFault left at before (PatternTooDeep at)
  no_memory_left :
      HasOpeningFault left at before Memory
