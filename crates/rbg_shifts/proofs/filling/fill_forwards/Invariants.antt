-- The entries of the vertices so far were filled.
use Rattle.rbg_shifts.specs.internal.Tables.{FillsUpTo}
use Rattle.rbg_shifts.proofs.filling.fill_forwards.Given as goal

abbrev pub invariant-loop-index : goal.invariant-loop-index
invariant-loop-index l = FillsUpTo l.fn.ground l.lists l.fn.table l.table l.node l.index
