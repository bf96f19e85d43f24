-- The variables before this one hold the same.
use Rattle.std.proofs.Common.{◌≡◌, take}
use Rattle.rbg_position.proofs.place_values.compare_values.Given as goal

abbrev pub invariant-loop-index : goal.invariant-loop-index
invariant-loop-index l = take l.index l.at.state.values ≡ take l.index l.place.state.values
