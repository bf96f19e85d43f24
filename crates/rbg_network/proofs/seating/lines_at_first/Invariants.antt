-- Each place has an entry.
use Rattle.std.proofs.Common.{◌≡◌, length}
use Rattle.rbg_network.proofs.seating.lines_at_first.Given as goal

abbrev pub invariant-loop-place : goal.invariant-loop-place
invariant-loop-place g l = length l.taken.items ≡ l.place-index
