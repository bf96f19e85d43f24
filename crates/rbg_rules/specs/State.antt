-- A game as mathematics, and its semi-states.
use Rattle.std.specs.Prelude.{◌≡◌, ℕ, ◌<◌, ◌≤◌, List, length, slice_index, replicate}
use Rattle.rbg_rules.specs.Expression.{Expression}
use Rattle.rbg_board.specs.Graph.{Graph}

-- A game (paper): players, pieces, bounded variables, a board and rules. A name is its bytes. Player n, from 1, is
-- the n-th name; the keeper is 0. Pieces, variables and directions are numbered from 0. Each player is also a
-- variable, its score: the variables are the players in order and then the other variables. A variable holds a whole
-- number from 0 to its bound.
pub record AbstractGame : Type 0 where
  pub players : List (List ℕ)
  pub pieces : List (List ℕ)
  pub variables : List (List ℕ)
  pub bounds : List ℕ
  pub directions : List (List ℕ)
  pub board : Graph
  pub rules : Expression

-- A semi-state (paper): the current player, the piece on every vertex, every variable's value, the current vertex.
pub record AbstractState : Type 0 where
  pub player : ℕ
  pub pieces : List ℕ
  pub values : List ℕ
  pub vertex : ℕ

-- The semi-state in which play begins: the keeper, the board's first pieces, zeros, vertex 0.
abbrev pub start_of : AbstractGame → AbstractState
start_of game = record { player = 0; pieces = game.board.first; values = replicate (length game.bounds) 0; vertex = 0 }

-- The semi-state is one of the game: it has the game's players, pieces, vertices and variables, and no value is above
-- its bound.
pub record IsStateOf (game : AbstractGame) (s : AbstractState) : Type 0 where
  pub player : s.player ≤ length game.players
  pub vertices : length s.pieces ≡ length game.board.first
  pub pieces : (v : ℕ) → v < length s.pieces → slice_index s.pieces v < length game.pieces
  pub variables : length s.values ≡ length game.bounds
  pub bounds : (v : ℕ) → v < length s.values → slice_index s.values v ≤ slice_index game.bounds v
  pub vertex : s.vertex < length s.pieces
