-- The line that has how many of each thing a game has.
use Rattle.std.specs.Prelude.{ℕ, List, ◌++◌, codes, length}
use Rattle.std.specs.Fmt.{decimal}
use Rattle.rbg_rules.specs.Meaning.{positions_of, AbstractGame}

-- `players 2 pieces 3 variables 2 directions 4 vertices 2 positions 10`
abbrev pub counts : ℕ → ℕ → ℕ → ℕ → ℕ → ℕ → List ℕ
counts players pieces variables directions vertices positions =
    codes "players " ++ (decimal players ++ (codes " pieces " ++ (decimal pieces
    ++ (codes " variables " ++ (decimal variables ++ (codes " directions " ++ (decimal directions
    ++ (codes " vertices " ++ (decimal vertices ++ (codes " positions " ++ decimal positions))))))))))

-- The counts of a game. The variables are counted with the players, the positions with those inside patterns.
abbrev pub counts_of : AbstractGame → List ℕ
counts_of game =
    counts (length game.players) (length game.pieces) (length game.variables) (length game.directions)
    (length game.board.first) (length (positions_of game.rules))
