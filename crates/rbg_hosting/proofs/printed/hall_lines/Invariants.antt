-- The first lines of the hall are printed.
use Rattle.std.proofs.Common.{take}
use Rattle.rbg_hosting.specs.Printed.{IsPrintedHall}
use Rattle.rbg_hosting.proofs.printed.hall_lines.Given as goal

abbrev pub invariant-loop-line : goal.invariant-loop-line
invariant-loop-line l = IsPrintedHall (take l.line l.out) l.lines.items
