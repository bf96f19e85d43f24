-- The parts of the text, one after the other.
use Rattle.std.proofs.Common.{codes}
use Rattle.rbg_view.specs.Texts.{names_text, values_text}
use Rattle.rbg_view.proofs.Parts.{values_are}
use Rattle.rbg_view.proofs.Writing.{joined5}
use Rattle.rbg_view.proofs.record_page.put_values_part.Goals as goal

pub returns : goal.returns
returns c = rw (values_are c.args.game.now c.args.place.now) (joined5 c.args.out.now.items _ _ _ _ _ (codes "<ul id='variables'>") (names_text c.args.game.now.variables) (codes "</ul>\n<ul id='values'>") (values_text c.args.place.now.state.values) (codes "</ul>\n") c.in_ok-extend_from_slice.ensures.items c.in_ok-put_variables.ensures c.in_ok-extend_from_slice-2.ensures.items (rw c.requires at c.in_ok-put_values.ensures) c.in_ok-extend_from_slice-3.ensures.items)
