-- If nothing was missing so far, nothing is missing at the nodes so far.
use Rattle.std.proofs.Common.{◌≡◌, false}
use Rattle.rbg_shifts.specs.internal.Tables.{IsSoundTable, AreClosedFrom}
use Rattle.rbg_shifts.proofs.rounds.round.Given as goal

abbrev pub invariant-loop-done : goal.invariant-loop-done
invariant-loop-done l = record {
  sound : IsSoundTable l.ground l.lists l.table;
  closed : l.missing ≡ false → AreClosedFrom l.ground l.lists l.table l.done;
}
