-- The values of the variables before this one.
use Rattle.std.proofs.Common.{◌≡◌, take}
use Rattle.rbg_moves.proofs.game_place.values_at.Given as goal

abbrev pub invariant-loop-index : goal.invariant-loop-index
invariant-loop-index l = l.values.items ≡ take l.index l.place.state.values
