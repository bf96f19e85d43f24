-- The parts of the text, one after the other.
use Rattle.std.proofs.Common.{◌≡◌, codes, ap, ◌∙◌}
use Rattle.rbg_rules.specs.Meaning.{AbstractPlace}
use Rattle.rbg_view.specs.Boards.{drawing_text}
use Rattle.rbg_view.specs.Pages.{values_part}
use Rattle.rbg_view.proofs.Parts.{place_is}
use Rattle.rbg_view.proofs.Writing.{joined4}
use Rattle.rbg_view.proofs.record_page.put_place_part.Goals as goal

pub returns : goal.returns
returns c =
    let standing : c.pieces-standing.result.now ≡ c.args.place.now.state.pieces = c.pieces-standing.ensures ∙ ap (λ (place : AbstractPlace). place.state.pieces) c.place.view_is in
    rw (place_is c.args.game.now c.args.layout.now c.args.marked.now c.args.place.now) (joined4 c.args.out.now.items _ _ _ _ (drawing_text c.args.layout.now c.args.game.now.pieces c.args.marked.now c.args.place.now.state.pieces) (codes "</svg>\n") (values_part c.args.game.now c.args.place.now) (codes "<div id='play'></div>\n") (rw standing at c.in_ok-put_drawing.ensures) c.in_ok-extend_from_slice.ensures.items c.in_ok-put_values_part.ensures c.in_ok-extend_from_slice-2.ensures.items)
