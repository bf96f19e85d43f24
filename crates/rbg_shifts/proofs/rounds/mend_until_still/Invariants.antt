-- Nothing is missing in what is marked.
use Rattle.rbg_shifts.specs.internal.Tables.{AreFilled}
use Rattle.rbg_shifts.proofs.rounds.mend_until_still.Given as goal

abbrev pub invariant-loop : goal.invariant-loop
invariant-loop l = AreFilled l.ground l.lists l.table l.filled
