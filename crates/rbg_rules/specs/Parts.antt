-- The game that checked parts make.
use Rattle.rbg_rules.specs.declared.game.Parts.{Parts}
use Rattle.rbg_rules.specs.State.{AbstractGame}
use Rattle.rbg_rules.specs.Texts.{texts}
use Rattle.rbg_rules.specs.Translation.{rules_of}

abbrev pub game_of_parts : Parts → AbstractGame
game_of_parts parts = record {
  players = texts parts.players.items;
  pieces = texts parts.pieces.items;
  variables = texts parts.variables.items;
  bounds = parts.bounds.items;
  directions = texts parts.directions.items;
  board = parts.board;
  rules = rules_of parts.rules;
}
