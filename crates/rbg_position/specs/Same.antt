-- A game with other pieces on its board.
use Rattle.std.specs.Prelude.{ℕ, ◌≤◌, List}
use Rattle.rbg_board.specs.Graph.{Graph, HasWidth}
use Rattle.rbg_rules.specs.Meaning.{AbstractGame}

-- The same game, with these pieces on the vertices of its board when play begins.
abbrev pub game_with : (game : AbstractGame) → (pieces : List ℕ) → AbstractGame
game_with game pieces = record {
  players = game.players;
  pieces = game.pieces;
  variables = game.variables;
  bounds = game.bounds;
  directions = game.directions;
  board = record { first = pieces; ways = game.board.ways };
  rules = game.rules;
}

-- The board has no more directions than can be numbered by 16 bits.
abbrev pub IsNarrow : Graph → Type 0
IsNarrow board = (width : ℕ) → HasWidth width board → width ≤ 65535
