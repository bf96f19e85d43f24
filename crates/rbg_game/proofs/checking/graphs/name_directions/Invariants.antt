use Rattle.std.proofs.Common.{map, take}
use Rattle.rbg_grammar.specs.Views.{vertex_of}
use Rattle.rbg_game.specs.Descriptions.{IsOrderOfFirstUse, directions_named}
use Rattle.rbg_game.proofs.checking.graphs.name_directions.Given as goal

abbrev pub invariant-loop-vertex : goal.invariant-loop-vertex
invariant-loop-vertex l = IsOrderOfFirstUse (directions_named (map vertex_of (take l.vertex-index l.vertices))) l.table
