-- A row without a cell.
use Rattle.rbg_base.proofs.Common.{below_more, sym, arith, eqb-false}
use Rattle.rbg_board.proofs.Vectors.{length_read}
use Rattle.rbg_board.proofs.hexagons.lacks_cell.Goals as goal

pub loop-row-preserved : goal.loop-row-preserved
loop-row-preserved c =
    let row = c.row-item.result in
    let here = length_read c.args.rows.now c.loop-row.row-index row c.loop-row-test.true c.row-item.is in
    let some = eqb-false row.len 0 (sym c.if-is_empty-2.ensures) in
    below_more _ _ c.loop-row.invariant (omega (arith, here, some))
