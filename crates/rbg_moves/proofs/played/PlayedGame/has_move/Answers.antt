use Rattle.rbg_moves.proofs.Asked.{tells_front}
use Rattle.rbg_moves.proofs.played.PlayedGame.has_move.Goals as goal

pub returns-clause-tells : goal.returns-clause-tells
returns-clause-tells c = tells_front c.find_front.result c.find_front.ensures.finds
