-- Nothing is missing in what is marked so far.
use Rattle.std.proofs.Common.{◌≡◌, length}
use Rattle.rbg_shifts.specs.internal.Tables.{AreFilled}
use Rattle.rbg_shifts.proofs.filling.fill_ready.Given as goal

abbrev pub invariant-loop-done : goal.invariant-loop-done
invariant-loop-done l = record {
  size : length l.filled ≡ length l.lists.interner.nodes.items;
  filled : AreFilled l.ground l.lists l.table l.filled;
}
