-- By computing.
use Rattle.rbg_position.proofs.WrittenBoards.{rectangle_with_stones}
use Rattle.rbg_position.proofs.examples.rows_have_the_pieces_of_their_vertices.Goals as goal

pub returns : goal.returns
returns c = rectangle_with_stones
