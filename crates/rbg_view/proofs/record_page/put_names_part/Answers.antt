-- The parts of the text, one after the other.
use Rattle.std.proofs.Common.{codes}
use Rattle.rbg_view.specs.Texts.{names_text}
use Rattle.rbg_view.proofs.Parts.{names_are}
use Rattle.rbg_view.proofs.Writing.{joined5}
use Rattle.rbg_view.proofs.record_page.put_names_part.Goals as goal

pub returns : goal.returns
returns c = rw (names_are c.args.game.now) (joined5 c.args.out.now.items _ _ _ _ _ (codes "<ul id='players'>") (names_text c.args.game.now.players) (codes "</ul>\n<ul id='pieces'>") (names_text c.args.game.now.pieces) (codes "</ul>\n") c.in_ok-extend_from_slice.ensures.items c.in_ok-put_players.ensures c.in_ok-extend_from_slice-2.ensures.items c.in_ok-put_pieces.ensures c.in_ok-extend_from_slice-3.ensures.items)
