-- The parts of the text, one after the other.
use Rattle.std.proofs.Common.{codes}
use Rattle.rbg_view.specs.Texts.{escaped}
use Rattle.rbg_view.proofs.Parts.{lines_are}
use Rattle.rbg_view.proofs.Writing.{joined4}
use Rattle.rbg_view.proofs.record_page.put_lines_part.Goals as goal

pub returns : goal.returns
returns c = rw (lines_are c.args.described.now c.args.lines.now) (joined4 c.args.out.now.items _ _ _ _ (codes "<details><summary>The record, and each place</summary>\n<pre id='game' hidden>\n") (escaped c.args.described.now) (codes "</pre>\n<pre id='record'>\n") c.args.lines.now c.in_ok-extend_from_slice.ensures.items c.in_ok-put_escaped.ensures c.in_ok-extend_from_slice-2.ensures.items c.in_ok-extend_from_slice-3.ensures.items)
