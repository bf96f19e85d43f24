-- The parts of the text, one after the other.
use Rattle.std.proofs.Common.{length}
use Rattle.rbg_view.specs.Boards.{frame_text, vertices_text, widest}
use Rattle.rbg_view.proofs.Parts.{rows_are}
use Rattle.rbg_view.proofs.Writing.{joined2}
use Rattle.rbg_view.proofs.drawing.put_rows.Goals as goal

pub returns : goal.returns
returns c = rw (rows_are c.args.kind.now c.args.cell.now c.args.drawn.now.game.now.pieces c.args.lengths.now c.args.drawn.now.marked.now c.args.drawn.now.standing.now) (joined2 c.args.out.now.items _ _ (frame_text c.args.kind.now (widest c.args.lengths.now) (length c.args.lengths.now) c.args.cell.now) (vertices_text c.args.drawn.now.game.now.pieces c.args.lengths.now c.args.drawn.now.marked.now c.args.drawn.now.standing.now) (rw c.widest_of-width.ensures at c.in_ok-put_frame.ensures) c.in_ok-put_vertices.ensures)
