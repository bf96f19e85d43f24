-- The board that is laid out is the rectangle.
use Rattle.std.proofs.Common.{rules}
use Rattle.rbg_board.specs.Cells.{rows_of}
use Rattle.rbg_board.proofs.RectangleEdges.{rectangle_board, rectangle_uses}
use Rattle.rbg_board.proofs.rectangles.rectangle.Goals as goal

pub returns-clause-board : goal.returns-clause-board
returns-clause-board c = rectangle_board c.args.directions (rows_of c.args.rows.now) (search rules) (search rules) c.table_width.result c.in_ok-board.board c.table_width.ensures.covers c.in_ok-board.ensures.board

pub returns-clause-directions : goal.returns-clause-directions
returns-clause-directions c = rectangle_uses c.args.directions (rows_of c.args.rows.now) (search rules) (search rules) c.table_width.result c.in_ok-board.board c.table_width.ensures.covers c.in_ok-board.ensures.board
