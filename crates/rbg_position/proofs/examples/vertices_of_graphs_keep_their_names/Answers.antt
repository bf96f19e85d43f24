-- By computing.
use Rattle.rbg_position.proofs.WrittenBoards.{graph_with_stones}
use Rattle.rbg_position.proofs.examples.vertices_of_graphs_keep_their_names.Goals as goal

pub returns : goal.returns
returns c = graph_with_stones
