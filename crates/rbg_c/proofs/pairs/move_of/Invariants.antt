-- The pairs so far.
use Rattle.std.proofs.Common.{◌≡◌, take}
use Rattle.rbg_c.proofs.pairs.move_of.Given as goal

abbrev pub invariant-loop-index : goal.invariant-loop-index
invariant-loop-index l = l.found ≡ take l.index l.pairs
