use Rattle.std.proofs.Common.{◌≡◌, length}
use Rattle.rbg_network.proofs.gathering.lines_of.Given as goal

abbrev pub invariant-loop-seat : goal.invariant-loop-seat
invariant-loop-seat g l = length l.lines.items ≡ length l.yielded
