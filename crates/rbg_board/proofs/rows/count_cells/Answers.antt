-- The count grows by one row at a time.
use Rattle.std.proofs.Common.{suc, arith, add-one}
use Rattle.rbg_board.specs.Cells.{rows_of}
use Rattle.rbg_board.proofs.Numbering.{start-suc, start-le-all}
use Rattle.rbg_board.proofs.Vectors.{length_read}
use Rattle.rbg_board.proofs.rows.count_cells.Goals as goal

pub returns-then-len-count-clause-exceeds : goal.returns-then-len-count-clause-exceeds
returns-then-len-count-clause-exceeds c =
    let rows = rows_of c.args.rows.now in
    let r = c.loop-row.row-index in
    let here = length_read c.args.rows.now r c.row-item.result c.loop-row-test.true c.row-item.is in
    omega (arith, here, c.len.ensures, start-suc rows r, start-le-all rows (suc r))

pub loop-row-preserved : goal.loop-row-preserved
loop-row-preserved c =
    let rows = rows_of c.args.rows.now in
    let r = c.loop-row.row-index in
    let here = length_read c.args.rows.now r c.row-item.result c.loop-row-test.true c.row-item.is in
    rw add-one (record { counted = omega (arith, here, c.len-count.ensures, start-suc rows r); fits = omega (arith, here, c.len.ensures, c.len-count.ensures) })
