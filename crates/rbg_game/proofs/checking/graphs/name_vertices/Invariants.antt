use Rattle.std.proofs.Common.{◌≡◌, map, take}
use Rattle.rbg_grammar.specs.Views.{vertex_of}
use Rattle.rbg_rules.specs.Meaning.{AreDifferentNames}
use Rattle.rbg_game.specs.Descriptions.{vertex_names}
use Rattle.rbg_game.proofs.checking.graphs.name_vertices.Given as goal

abbrev pub invariant-loop-vertex : goal.invariant-loop-vertex
invariant-loop-vertex l = (l.names ≡ vertex_names (map vertex_of (take l.vertex l.vertices))) × AreDifferentNames l.names
