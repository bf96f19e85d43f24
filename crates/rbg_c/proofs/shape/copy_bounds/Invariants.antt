-- The bounds so far stand at the beginning of the buffer.
use Rattle.std.proofs.Common.{◌≡◌, ◌++◌, take, drop}
use Rattle.rbg_c.proofs.shape.copy_bounds.Given as goal

abbrev pub invariant-loop-index : goal.invariant-loop-index
invariant-loop-index l = l.buffer ≡ take l.index l.game.bounds ++ drop l.index l.initial.buffer
