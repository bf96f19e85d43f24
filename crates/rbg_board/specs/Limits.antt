-- The limits of a board.
use Rattle.std.specs.Prelude.{ℕ}

-- the maximum number of vertices of a board
abbrev pub most_vertices : ℕ
most_vertices = 4096
