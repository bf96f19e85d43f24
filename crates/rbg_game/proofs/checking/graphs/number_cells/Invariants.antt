use Rattle.rbg_base.proofs.Common.{ℕ, List, map, take, AllZip}
use Rattle.rbg_board.specs.Vertices.{written_of}
use Rattle.rbg_grammar.proofs.Common.{graph, vertex_of}
use Rattle.rbg_game.specs.NameNumbers.{IsNumberOf}
use Rattle.rbg_game.proofs.Common.{board_pieces, IsCell}
use Rattle.rbg_game.proofs.checking.graphs.number_cells.Given as goal

-- if the numbers are those of the pieces in a table
abbrev pub invariant-loop-place : goal.invariant-loop-place
invariant-loop-place l =
    (table : List (List ℕ))
    → AllZip (IsNumberOf table) (board_pieces (graph (map vertex_of l.vertices))) l.pieces
    → AllZip (IsCell table l.directions l.names) (map vertex_of (take l.place l.vertices)) (written_of l.cells.items)
