use Rattle.std.proofs.Common.{◌≡◌, length}
use Rattle.rbg_hall.proofs.TableCommon.{lines_in_all, bytes_in, undone}
use Rattle.rbg_hall.proofs.queues.Queues.roll_back.Given as goal

abbrev pub invariant-loop-mark : goal.invariant-loop-mark
invariant-loop-mark l = record {
  same : undone (bytes_in l.self-inside.bytes.items) l.self-inside.marks.items ≡ undone (bytes_in l.initial.self-inside.bytes.items) l.initial.self-inside.marks.items;
  in_all : length l.self-inside.bytes.items ≡ lines_in_all;
}

abbrev pub decreases-loop-mark : goal.decreases-loop-mark
decreases-loop-mark l = length l.self-inside.marks.items
