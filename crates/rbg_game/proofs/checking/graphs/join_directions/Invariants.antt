use Rattle.std.proofs.Common.{map, take}
use Rattle.rbg_grammar.specs.Views.{edge_of}
use Rattle.rbg_game.specs.internal.Graphs.{AddsInOrder, edge_directions}
use Rattle.rbg_game.proofs.checking.graphs.join_directions.Given as goal

abbrev pub invariant-loop-edge : goal.invariant-loop-edge
invariant-loop-edge l = AddsInOrder (edge_directions (map edge_of (take l.edge-index l.edges))) l.initial.table l.table
