-- Nothing is missing in what is marked.
use Rattle.rbg_shifts.specs.internal.Tables.{AreFilled}
use Rattle.rbg_shifts.proofs.rounds.mend_others.Given as goal

abbrev pub invariant-loop-done : goal.invariant-loop-done
invariant-loop-done l = AreFilled l.ground l.lists l.table l.filled
