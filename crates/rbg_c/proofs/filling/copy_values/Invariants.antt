-- The values so far stand at the beginning of the buffer.
use Rattle.std.proofs.Common.{◌≡◌, ◌++◌, take, drop}
use Rattle.rbg_c.proofs.filling.copy_values.Given as goal

abbrev pub invariant-loop-index : goal.invariant-loop-index
invariant-loop-index l = l.buffer ≡ take l.index l.state.place.state.values ++ drop l.index l.initial.buffer
