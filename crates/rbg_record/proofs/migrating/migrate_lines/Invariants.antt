use Rattle.std.proofs.Common.{length}
use Rattle.rbg_record.proofs.Stopping.{IsReadSoFar}
use Rattle.rbg_record.specs.internal.Migrating.{AreMigrated}
use Rattle.rbg_record.proofs.migrating.migrate_lines.Given as goal

abbrev pub invariant-loop-out : goal.invariant-loop-out
invariant-loop-out l = IsReadSoFar (AreMigrated l.game) l.bytes (l.next, l.out.items) l.reader

abbrev pub decreases-loop-out : goal.decreases-loop-out
decreases-loop-out l = length l.reader.rest
