-- The parts of the text, one after the other.
use Rattle.rbg_view.specs.declared.tail.TheConstants.{STYLES, SCRIPTS, END}
use Rattle.rbg_view.specs.declared.style.TheConstants.{BOARD_STYLE}
use Rattle.rbg_view.specs.declared.script.TheConstants.{BOARD_SCRIPT}
use Rattle.rbg_view.proofs.Parts.{tail_is}
use Rattle.rbg_view.proofs.Writing.{joined5}
use Rattle.rbg_view.proofs.record_page.put_tail.Goals as goal

pub returns : goal.returns
returns c = rw tail_is (joined5 c.args.out.now.items _ _ _ _ _ STYLES.now BOARD_STYLE.now SCRIPTS.now BOARD_SCRIPT.now END.now c.in_ok-extend_from_slice.ensures.items c.in_ok-extend_from_slice-2.ensures.items c.in_ok-extend_from_slice-3.ensures.items c.in_ok-extend_from_slice-4.ensures.items c.in_ok-extend_from_slice-5.ensures.items)
