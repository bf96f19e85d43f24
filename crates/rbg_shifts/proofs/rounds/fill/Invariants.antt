-- The table is right so far.
use Rattle.rbg_shifts.specs.internal.Tables.{IsSoundTable}
use Rattle.rbg_shifts.proofs.rounds.fill.Given as goal

abbrev pub invariant-loop : goal.invariant-loop
invariant-loop l = IsSoundTable l.ground l.lists l.table
