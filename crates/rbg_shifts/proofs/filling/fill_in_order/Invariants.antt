-- Nothing is missing in what is marked so far.
use Rattle.std.proofs.Common.{◌≡◌, length}
use Rattle.rbg_shifts.specs.internal.Tables.{AreFilled}
use Rattle.rbg_shifts.proofs.filling.fill_in_order.Given as goal

abbrev pub invariant-loop : goal.invariant-loop
invariant-loop l = record {
  size : length l.filled.items ≡ length l.lists.interner.nodes.items;
  filled : AreFilled l.ground l.lists l.table l.filled.items;
}
