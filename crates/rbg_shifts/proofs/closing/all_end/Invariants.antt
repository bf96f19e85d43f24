-- The entries so far record that a word may end.
use Rattle.std.proofs.Common.{◌<◌, ℕ, IsTrue}
use Rattle.rbg_shifts.specs.internal.Tables.{entry_at}
use Rattle.rbg_shifts.proofs.closing.all_end.Given as goal

abbrev pub invariant-loop-index : goal.invariant-loop-index
invariant-loop-index l = (v : ℕ) → v < l.index → IsTrue (entry_at l.table l.node v).ends
