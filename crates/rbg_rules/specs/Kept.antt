-- What holds of the parts of a game.
use Rattle.std.specs.Prelude.{◌≡◌, length}
use Rattle.rbg_rules.specs.declared.game.Parts.{Parts}
use Rattle.rbg_rules.specs.Games.{IsGame}
use Rattle.rbg_rules.specs.Parts.{game_of_parts}
use Rattle.rbg_rules.specs.Positions.{positions_of}
use Rattle.rbg_rules.specs.Translation.{rules_of}

-- The game of these parts is a lawful one, and there is one action for each position.
pub record IsKept (parts : Parts) : Type 0 where
  pub lawful : IsGame (game_of_parts parts)
  pub actions : length parts.rules.actions.items ≡ length (positions_of (rules_of parts.rules))
