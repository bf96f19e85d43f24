-- A table has one width.
use Rattle.rbg_board.proofs.Tables.{has_width}
use Rattle.rbg_board.proofs.board.Board.new.Goals as goal

pub returns-clause-width : goal.returns-clause-width
returns-clause-width c = has_width c.args.first.items c.args.width c.args.table.items c.requires
