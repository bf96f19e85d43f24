use Rattle.std.proofs.Common.{◌≡◌, map, take}
use Rattle.rbg_grammar.specs.Views.{vertex_of}
use Rattle.rbg_game.specs.NameTables.{bytes_of}
use Rattle.rbg_game.specs.Descriptions.{vertex_names}
use Rattle.rbg_game.proofs.layout.copy_names.Given as goal

abbrev pub invariant-loop-vertex : goal.invariant-loop-vertex
invariant-loop-vertex l = bytes_of l.names.items ≡ vertex_names (map vertex_of (take l.vertex-index l.vertices))
