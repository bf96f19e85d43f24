-- When a game has no table of leaps.
use Rattle.std.specs.Prelude.{ℕ, ◌+◌, ◌*◌, ◌/◌, ◌<◌, length}
use Rattle.rbg_rules.specs.Meaning.{positions_of, AbstractGame}

-- the maximum number of words for one row of vertices at each position and each vertex: 32 megabytes
abbrev pub most_words : ℕ
most_words = 4194304

-- how many words the row of a game's vertices has, 64 vertices in a word
abbrev pub row_words : AbstractGame → ℕ
row_words game = (length game.board.first + 63) / 64

-- One row of vertices at each position and each vertex has more words than there may be.
pub record IsTooLarge (game : AbstractGame) : Type 0 where
  pub words : most_words < length (positions_of game.rules) * length game.board.first * row_words game
