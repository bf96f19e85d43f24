-- The lines of the messages so far are printed, and the others are in what is left.
use Rattle.std.proofs.Common.{length}
use Rattle.rbg_referee.proofs.PrintedLemmas.{ArePrintedOf}
use Rattle.rbg_referee.proofs.printed.push_seat.Given as goal

abbrev pub invariant-loop-message : goal.invariant-loop-message
invariant-loop-message l = ArePrintedOf l.seat l.bytes l.left l.initial.lines.items l.lines.items

abbrev pub decreases-loop-message : goal.decreases-loop-message
decreases-loop-message l = length l.left
