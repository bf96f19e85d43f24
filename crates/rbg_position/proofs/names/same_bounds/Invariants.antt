-- So far all is the same.
use Rattle.std.proofs.Common.{◌≡◌, take}
use Rattle.rbg_position.proofs.names.same_bounds.Given as goal

abbrev pub invariant-loop-index : goal.invariant-loop-index
invariant-loop-index l = take l.index l.old.bounds ≡ take l.index l.new.bounds
