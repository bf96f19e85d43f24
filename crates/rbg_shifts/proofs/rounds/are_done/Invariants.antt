-- Nothing is missing in the nodes so far.
use Rattle.std.proofs.Common.{◌<◌, ℕ}
use Rattle.rbg_shifts.specs.internal.Tables.{AreClosedAt}
use Rattle.rbg_shifts.proofs.rounds.are_done.Given as goal

abbrev pub invariant-loop-node : goal.invariant-loop-node
invariant-loop-node l = (n : ℕ) → n < l.node → AreClosedAt l.ground l.lists l.table n
