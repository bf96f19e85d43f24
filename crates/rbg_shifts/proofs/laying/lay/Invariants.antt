-- The entries of the nodes so far are side by side.
use Rattle.std.proofs.Common.{take}
use Rattle.rbg_shifts.specs.internal.Tables.{AreLaid}
use Rattle.rbg_shifts.proofs.laying.lay.Given as goal

abbrev pub invariant-loop-node : goal.invariant-loop-node
invariant-loop-node l = AreLaid l.vertices l.all (take l.node-index l.nodes) l.entries.items
