-- The directions of the positions so far.
use Rattle.rbg_shifts.specs.internal.Steps.{AreDirectionsUpTo}
use Rattle.rbg_shifts.proofs.shifts.directions.Given as goal

abbrev pub invariant-loop-index : goal.invariant-loop-index
invariant-loop-index l = AreDirectionsUpTo l.game.rules l.index l.directions.items
