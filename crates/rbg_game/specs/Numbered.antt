-- The rules of a description by numbers, with all that holds of the rules of every game.
use Rattle.std.specs.Prelude.{◌≡◌, ℕ, ◌≤◌, length}
use Rattle.rbg_grammar.specs.Tree.{SpeltRule}
use Rattle.rbg_rules.specs.Meaning.{AbstractAction, switch, Expression, HasNoEmptySum, NestsWithin, IsActionOf, HasAction, positions_of, IsNumbered, IsLevel, inside, AbstractGame, rules_of, most_players, most_variables, most_pieces, most_directions, most_positions, most_nested_patterns}
use Rattle.rbg_rules.specs.declared.rule.Rules.{Rules}
use Rattle.rbg_game.specs.declared.tables.NameTables.{NameTables}
use Rattle.rbg_game.specs.NameNumbers.{Names}
use Rattle.rbg_game.specs.Rules.{RuleIs}

-- the names in the tables
abbrev pub names_of : NameTables → Names
names_of tables =
    record {
      players = tables.players.now;
      variables = tables.variables.now;
      pieces = tables.pieces.now;
      directions = tables.directions.now;
    }

-- no more names than a game may have
pub record IsWithinLimits (names : Names) : Type 0 where
  pub players : length names.players ≤ most_players
  pub variables : length names.variables ≤ most_variables
  pub pieces : length names.pieces ≤ most_pieces
  pub directions : length names.directions ≤ most_directions

-- the game has as many players, variables, pieces and directions
pub record HasAsMany (names : Names) (game : AbstractGame) : Type 0 where
  pub players : length game.players ≡ length names.players
  pub variables : length game.variables ≡ length names.variables
  pub pieces : length game.pieces ≡ length names.pieces
  pub directions : length game.directions ≡ length names.directions

-- The actions are those of every game with as many things.
abbrev pub HasActionsOf : Names → Expression → Type 0
HasActionsOf names x =
    (game : AbstractGame)
    → HasAsMany names game
    → (p : ℕ) (a : AbstractAction)
    → HasAction x p a
    → IsActionOf game a

-- no switch is in a pattern
abbrev pub HasNoSwitchInPattern : Expression → Type 0
HasNoSwitchInPattern x =
    (p : ℕ) (y : Expression)
    → IsLevel x (inside p) y
    → (q n : ℕ)
    → ¬ HasAction y q (switch n)

-- The expression is the rule by numbers, and meets the conditions on the rules of every game.
pub record IsRuleByNumbers (names : Names) (rule : SpeltRule) (x : Expression) : Type 0 where
  pub is_rule : RuleIs names rule x
  pub numbered : IsNumbered x
  pub positions : length (positions_of x) ≤ most_positions
  pub nesting : NestsWithin most_nested_patterns x
  pub switches : HasNoSwitchInPattern x
  pub no_empty_sum : HasNoEmptySum x
  pub actions : HasActionsOf names x

-- The tree with the actions of its positions is the rule by numbers, and there is one action for each position.
pub record AreRulesByNumbers (names : Names) (rule : SpeltRule) (rules : Rules) : Type 0 where
  pub by_numbers : IsRuleByNumbers names rule (rules_of rules)
  pub count : length rules.actions.items ≡ length (positions_of (rules_of rules))
