use Rattle.rbg_base.proofs.Common.{map, take, AllZip}
use Rattle.rbg_grammar.proofs.Common.{graph, vertex_of}
use Rattle.rbg_game.specs.NameNumbers.{IsNumberOf}
use Rattle.rbg_game.specs.Faults.{board_pieces}
use Rattle.rbg_game.proofs.checking.graphs.number_pieces.Given as goal

abbrev pub invariant-loop-vertex : goal.invariant-loop-vertex
invariant-loop-vertex l = AllZip (IsNumberOf l.pieces) (board_pieces (graph (map vertex_of (take l.vertex-index l.vertices)))) l.numbers.items
