-- The first due moment of the first tables.
use Rattle.rbg_hall.proofs.Dues.{AreFirst}
use Rattle.rbg_hall.proofs.due.first_due.Given as goal

abbrev pub invariant-loop-table : goal.invariant-loop-table
invariant-loop-table g l = AreFirst l.tables l.table-index l.first
