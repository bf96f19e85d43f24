-- The parts of the text, one after the other.
use Rattle.std.proofs.Common.{codes}
use Rattle.rbg_view.specs.Texts.{escaped}
use Rattle.rbg_view.specs.Boards.{mark_text, spot_text}
use Rattle.rbg_view.proofs.Parts.{vertex_is}
use Rattle.rbg_view.proofs.Writing.{joined6}
use Rattle.rbg_view.proofs.drawing.put_vertex.Goals as goal

pub returns : goal.returns
returns c = rw (vertex_is c.args.name.now c.args.spot c.args.is_marked c.args.piece) (joined6 c.args.out.now.items _ _ _ _ _ _ (spot_text c.args.spot c.args.piece) (escaped c.args.name.now) (mark_text c.args.is_marked) (codes "<use href='#cell'/><circle r='4'/><text>") (escaped c.args.name.now) (codes "</text></g>\n") c.in_ok-put_spot.ensures c.in_ok-put_escaped.ensures c.in_ok-put_mark.ensures c.in_ok-extend_from_slice.ensures.items c.in_ok-put_escaped-2.ensures c.in_ok-extend_from_slice-2.ensures.items)
