-- A row that is not as long as the first.
use Rattle.rbg_base.proofs.Common.{below_more, arith, sym, ◌∙◌, length-map}
use Rattle.rbg_board.proofs.Vectors.{length_read}
use Rattle.rbg_board.proofs.rectangles.first_uneven.Goals as goal

pub returns-then-len-width : goal.returns-then-len-width
returns-then-len-width c =
    let here = length_read c.args.rows.now c.loop-r.r c.index-rows-r.result c.loop-r-test.true c.index-rows-r.is in
    record {
      is_row = omega (arith, length-map c.args.rows.now (λ v. v.items));
      uneven = λ even. c.if-len-width.true (c.len.ensures ∙ here ∙ even ∙ sym c.cells_in-width.ensures);
      even_before = c.loop-r.invariant;
    }

pub loop-r-preserved : goal.loop-r-preserved
loop-r-preserved c =
    let here = length_read c.args.rows.now c.loop-r.r c.index-rows-r.result c.loop-r-test.true c.index-rows-r.is in
    below_more _ _ c.loop-r.invariant (sym here ∙ sym c.len.ensures ∙ c.if-len-width.false ∙ c.cells_in-width.ensures)
