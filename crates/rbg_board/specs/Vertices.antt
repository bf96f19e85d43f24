-- The vertices that the given cells write.
use Rattle.std.specs.Prelude.{List, map}
use Rattle.rbg_board.specs.declared.graphs.Cell.{Cell}
use Rattle.rbg_board.specs.Written.{Written}

-- the vertex that a cell writes
abbrev pub written : Cell → Written
written cell = record { name = cell.name; piece = cell.piece; edges = cell.edges.items }

-- the written graph that a slice of cells is
abbrev pub written_of : List Cell → List Written
written_of cells = map written cells
