-- There are the entries of the nodes so far.
use Rattle.std.proofs.Common.{◌≡◌, ◌*◌, replicate}
use Rattle.rbg_shifts.specs.Made.{no_entry}
use Rattle.rbg_shifts.proofs.table.Table.empty_entries.Given as goal

abbrev pub invariant-loop : goal.invariant-loop
invariant-loop l = l.entries.items ≡ replicate (l.counter * l.vertices) no_entry
