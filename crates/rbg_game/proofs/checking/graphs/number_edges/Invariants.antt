use Rattle.rbg_base.proofs.Common.{map, take, AllZip}
use Rattle.rbg_grammar.specs.Views.{edge_of}
use Rattle.rbg_game.specs.internal.Graphs.{IsEdge}
use Rattle.rbg_game.proofs.checking.graphs.number_edges.Given as goal

abbrev pub invariant-loop-edge : goal.invariant-loop-edge
invariant-loop-edge l = AllZip (IsEdge l.directions l.names) (map edge_of (take l.edge-index l.edges)) l.numbers.items
