use Rattle.rbg_position.proofs.SameMoves.{same_moves_go_on_law}
use Rattle.rbg_position.proofs.laws.same_moves_go_on.Goals as goal

pub returns : goal.returns
returns c = same_moves_go_on_law
