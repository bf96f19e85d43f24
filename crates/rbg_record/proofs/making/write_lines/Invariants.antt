use Rattle.std.proofs.Common.{length}
use Rattle.rbg_record.proofs.Stopping.{IsReadSoFar}
use Rattle.rbg_record.specs.internal.Telling.{AreWritten}
use Rattle.rbg_record.proofs.making.write_lines.Given as goal

abbrev pub invariant-loop-out : goal.invariant-loop-out
invariant-loop-out l = IsReadSoFar AreWritten l.bytes (l.next, l.out.items) l.reader

abbrev pub decreases-loop-out : goal.decreases-loop-out
decreases-loop-out l = length l.reader.rest
