-- The parts of the text, one after the other.
use Rattle.std.proofs.Common.{codes}
use Rattle.rbg_view.specs.Texts.{field_text}
use Rattle.rbg_view.proofs.Parts.{spot_is}
use Rattle.rbg_view.proofs.Writing.{joined5}
use Rattle.rbg_view.proofs.drawing.put_spot.Goals as goal

pub returns : goal.returns
returns c = rw (spot_is c.args.spot c.args.piece) (joined5 c.args.out.now.items _ _ _ _ _ (field_text (codes "<g style='--x:") c.args.spot.column) (field_text (codes ";--y:") c.args.spot.row) (field_text (codes ";--l:") c.args.spot.length) (field_text (codes ";--p:") c.args.piece) (codes "' data-piece='") c.in_ok-put_field.ensures c.in_ok-put_field-2.ensures c.in_ok-put_field-3.ensures (rw c.from.ensures at c.in_ok-put_field-4.ensures) c.in_ok-extend_from_slice.ensures.items)
