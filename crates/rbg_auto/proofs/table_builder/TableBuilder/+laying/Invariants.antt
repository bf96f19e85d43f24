-- What the loops over parts keep.
use Rattle.std.proofs.Common.{◌<◌, length}
use Rattle.rbg_auto.specs.internal.Tables.{IsKept}
use Rattle.rbg_auto.proofs.BuildingLemmas.{SumSoFar, SequenceOwes}
use Rattle.rbg_auto.proofs.table_builder.TableBuilder.+laying.Given as goal

abbrev pub invariant-lay_sequence-loop-left : goal.invariant-lay_sequence-loop-left
invariant-lay_sequence-loop-left l = record {
  owes : SequenceOwes l.fn.self.table l.self.table l.parts l.left l.fn.rest.positions.items l.fn.rest.may_end l.before.positions.items l.before.may_end;
  kept : IsKept l.self.table.entries.items l.kept l.fn.rest.positions.items;
  below : l.left < length l.parts;
}

abbrev pub decreases-lay_sequence-loop-left : goal.decreases-lay_sequence-loop-left
decreases-lay_sequence-loop-left l = l.left

abbrev pub invariant-lay-loop-part : goal.invariant-lay-loop-part
invariant-lay-loop-part l = record {
  so_far : SumSoFar l.fn.self.table l.self.table l.part-items l.part-index l.rest.positions.items l.rest.may_end;
  kept : IsKept l.self.table.entries.items l.kept l.rest.positions.items;
}
