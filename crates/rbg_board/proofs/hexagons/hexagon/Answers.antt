-- The board that is laid out is the hexagon.
use Rattle.std.proofs.Common.{arith, rules}
use Rattle.rbg_board.proofs.Common.{rows_of, HasCells}
use Rattle.rbg_board.proofs.Numbering.{start-suc, start-le-all}
use Rattle.rbg_board.proofs.HexagonEdges.{hexagon_board, hexagon_uses}
use Rattle.rbg_board.proofs.hexagons.hexagon.Goals as goal

-- row 0 has a cell
pub lay_out-requires-clause-some : goal.lay_out-requires-clause-some
lay_out-requires-clause-some c =
    let rows = rows_of c.args.rows.now in
    let cells : HasCells rows = c.if-lacks_cell.ensures in
    omega (arith, c.in_ok-vertices.ensures.count, cells.each_row 0 cells.some_row, start-suc rows 0, start-le-all rows 1)

pub returns-clause-board : goal.returns-clause-board
returns-clause-board c = hexagon_board c.args.directions (rows_of c.args.rows.now) (search rules) (search rules) c.table_width.result c.in_ok-board.board c.table_width.ensures.covers c.in_ok-board.ensures.board

pub returns-clause-directions : goal.returns-clause-directions
returns-clause-directions c = hexagon_uses c.args.directions (rows_of c.args.rows.now) (search rules) (search rules) c.table_width.result c.in_ok-board.board c.table_width.ensures.covers c.in_ok-board.ensures.board
