-- So far all is the same.
use Rattle.std.proofs.Common.{◌≡◌, take}
use Rattle.rbg_position.proofs.same_moves.same_lists.Given as goal

abbrev pub invariant-loop-index : goal.invariant-loop-index
invariant-loop-index l = take l.index l.new ≡ take l.index l.old
