-- The lines of the first seats are printed.
use Rattle.std.proofs.Common.{take}
use Rattle.rbg_referee.specs.Printed.{IsPrinted}
use Rattle.rbg_referee.proofs.printed.match_lines.Given as goal

abbrev pub invariant-loop-index : goal.invariant-loop-index
invariant-loop-index l = IsPrinted (take l.index l.outbox) l.lines.items
