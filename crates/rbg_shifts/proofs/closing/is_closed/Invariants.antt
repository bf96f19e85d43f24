-- The positions so far are recorded.
use Rattle.std.proofs.Common.{take, All}
use Rattle.rbg_shifts.specs.internal.Tables.{RecordsStepEverywhere}
use Rattle.rbg_shifts.proofs.closing.is_closed.Given as goal

abbrev pub invariant-loop-listed : goal.invariant-loop-listed
invariant-loop-listed l = All (RecordsStepEverywhere l.ground l.lists l.table l.node) (take l.listed-index l.listed-items)
