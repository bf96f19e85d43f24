-- The width grows by one direction at a time.
use Rattle.rbg_base.proofs.Common.{◌≡◌, length, take, ap, ◌∙◌, arith, take-length}
use Rattle.rbg_board.specs.Cells.{width_of}
use Rattle.rbg_board.proofs.Widths.{width_more, width_covers}
use Rattle.rbg_board.proofs.directions.table_width.Goals as goal

pub loop-direction-preserved : goal.loop-direction-preserved
loop-direction-preserved c =
    let more = width_more c.args.directions.now c.loop-direction.direction-index 0 c.loop-direction-test.true in
    record {
      width = omega (arith, more, c.max-width.ensures, c.loop-direction.invariant.width);
      limit = omega (arith, c.max-width.ensures, c.loop-direction.invariant.limit);
    }

pub returns-clause-width : goal.returns-clause-width
returns-clause-width c =
    let directions = c.args.directions.now in
    let all : c.loop-direction.direction-index ≡ length directions = omega arith in
    c.loop-direction.invariant.width ∙ ap (λ n. width_of (take n directions)) all ∙ ap width_of (take-length directions)

pub returns-clause-covers : goal.returns-clause-covers
returns-clause-covers c =
    let directions = c.args.directions.now in
    let all : c.loop-direction.direction-index ≡ length directions = omega arith in
    let width = c.loop-direction.invariant.width ∙ ap (λ n. width_of (take n directions)) all ∙ ap width_of (take-length directions) in
    λ k d within. omega (arith, width, width_covers directions k d within)
