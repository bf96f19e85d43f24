-- Both tokens are there.
use Rattle.rbg_position.proofs.Tokens.{begins_here}
use Rattle.rbg_position.proofs.new_text.begins_board.Goals as goal

pub returns : goal.returns
returns c = begins_here c.args.tokens.now c.args.at _ _ c.is_board.result c.requires c.is_board.ensures
