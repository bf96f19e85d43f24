use Rattle.std.proofs.Common.{◌≡◌, length}
use Rattle.rbg_network.proofs.gathering.free_seats.Given as goal

abbrev pub invariant-loop : goal.invariant-loop
invariant-loop g l = length l.free.items ≡ l.counter
