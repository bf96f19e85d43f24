-- The tokens so far are written.
use Rattle.std.proofs.Common.{◌≤◌}
use Rattle.rbg_position.proofs.Sections.{AreWritten}
use Rattle.rbg_position.proofs.board.put_section.Given as goal

abbrev pub invariant-loop-index : goal.invariant-loop-index
invariant-loop-index l =
    AreWritten l.game l.pieces l.section.tokens l.fn.out.items l.vertex l.is_inside l.last l.index l.out.items
    × (l.vertex ≤ l.index)
