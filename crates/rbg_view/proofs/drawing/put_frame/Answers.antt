-- The parts of the text, one after the other.
use Rattle.std.proofs.Common.{codes}
use Rattle.rbg_view.specs.Boards.{size_text}
use Rattle.rbg_view.proofs.Parts.{frame_is}
use Rattle.rbg_view.proofs.Writing.{joined6}
use Rattle.rbg_view.proofs.drawing.put_frame.Goals as goal

pub returns : goal.returns
returns c = rw (frame_is c.args.kind.now c.args.width c.args.height c.args.cell.now) (joined6 c.args.out.now.items _ _ _ _ _ _ (codes "<svg id='board' class='") c.args.kind.now (size_text c.args.width c.args.height) (codes "0'><defs>") c.args.cell.now (codes "</defs>\n") c.in_ok-extend_from_slice.ensures.items c.in_ok-extend_from_slice-2.ensures.items c.in_ok-put_size.ensures c.in_ok-extend_from_slice-3.ensures.items c.in_ok-extend_from_slice-4.ensures.items c.in_ok-extend_from_slice-5.ensures.items)
