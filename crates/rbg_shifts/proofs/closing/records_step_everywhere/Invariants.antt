-- The position is recorded at the vertices so far.
use Rattle.std.proofs.Common.{◌<◌, ℕ}
use Rattle.rbg_shifts.specs.internal.Tables.{entry_at, RecordsStepAt}
use Rattle.rbg_shifts.proofs.closing.records_step_everywhere.Given as goal

abbrev pub invariant-loop-index : goal.invariant-loop-index
invariant-loop-index l = (v : ℕ) → v < l.index → RecordsStepAt l.fn.ground l.lists l.table (entry_at l.table l.node v) v l.position
