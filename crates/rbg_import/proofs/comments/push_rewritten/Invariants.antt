-- What was added so far is what the bytes up to here become.
use Rattle.std.proofs.Common.{length, ◌-◌}
use Rattle.rbg_import.proofs.Rewriting.{AddsTo}
use Rattle.rbg_import.proofs.comments.push_rewritten.Given as goal

abbrev pub invariant-loop-at : goal.invariant-loop-at
invariant-loop-at l = AddsTo l.bytes l.at l.fn.output.items l.output.items

abbrev pub decreases-loop-at : goal.decreases-loop-at
decreases-loop-at l = length l.bytes - l.at
