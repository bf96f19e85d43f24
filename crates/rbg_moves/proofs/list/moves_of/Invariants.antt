-- The moves so far are the first of the list.
use Rattle.std.proofs.Common.{◌≡◌, take}
use Rattle.rbg_moves.proofs.list.moves_of.Given as goal

abbrev pub invariant-loop-index : goal.invariant-loop-index
invariant-loop-index l = l.moves.items ≡ take l.index l.list
