-- The width grows by the edges of one cell at a time.
use Rattle.rbg_base.proofs.Common.{◌≡◌, length, take, ap, sym, ◌∙◌, arith, take-length}
use Rattle.rbg_board.proofs.Common.{width_of, directions_in, directions_of, written, written_of}
use Rattle.rbg_board.proofs.CellReads.{edges_read, length-written}
use Rattle.rbg_board.proofs.Widths.{vertices_more, vertices_below}
use Rattle.rbg_board.proofs.graphs.cells_width.Goals as goal

pub loop-cell-preserved : goal.loop-cell-preserved
loop-cell-preserved c =
    let cells = c.args.cells.now in
    let i = c.loop-cell.cell-index in
    let cell = c.cell-item.result in
    let edges = edges_read cells i cell c.loop-cell-test.true c.cell-item.is c.deref.result.now (written cell) c.deref.ensures.value in
    let more = vertices_more (written_of cells) i (written cell) (omega (arith, length-written cells)) in
    let last = c.edges_width.ensures.width ∙ ap (λ es. width_of (directions_in es)) (sym edges) in
    record {
      width = omega (arith, more, last, c.max-width.ensures, c.loop-cell.invariant.width);
      limit = omega (arith, c.max-width.ensures, c.edges_width.ensures.limit, c.loop-cell.invariant.limit);
    }

pub returns-clause-width : goal.returns-clause-width
returns-clause-width c =
    let vertices = written_of c.args.cells.now in
    let all : c.loop-cell.cell-index ≡ length vertices = omega (arith, length-written c.args.cells.now) in
    c.loop-cell.invariant.width ∙ ap (λ n. width_of (directions_of (take n vertices))) all ∙ ap (λ ws. width_of (directions_of ws)) (take-length vertices)

pub returns-clause-covers : goal.returns-clause-covers
returns-clause-covers c =
    let vertices = written_of c.args.cells.now in
    let all : c.loop-cell.cell-index ≡ length vertices = omega (arith, length-written c.args.cells.now) in
    let width = c.loop-cell.invariant.width ∙ ap (λ n. width_of (directions_of (take n vertices))) all ∙ ap (λ ws. width_of (directions_of ws)) (take-length vertices) in
    vertices_below vertices c.loop-cell.width (omega (arith, width))
