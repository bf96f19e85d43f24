use Rattle.rbg_position.proofs.VertexNames.{names_are_of_vertices}
use Rattle.rbg_position.proofs.laws.names_in_brackets_are_of_vertices.Goals as goal

pub returns : goal.returns
returns c = names_are_of_vertices
