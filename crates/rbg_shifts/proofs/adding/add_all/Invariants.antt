-- The targets so far were added.
use Rattle.rbg_shifts.specs.internal.Tables.{AddsUpTo}
use Rattle.rbg_shifts.proofs.adding.add_all.Given as goal

abbrev pub invariant-loop-index : goal.invariant-loop-index
invariant-loop-index l = AddsUpTo l.start l.fn.targets.items l.targets.items l.fn.from l.fn.to l.index
