use Rattle.rbg_hall.specs.internal.Parts.{FirstHaveLimits}
use Rattle.rbg_hall.proofs.opening.faulty.Given as goal

abbrev pub invariant-loop-index : goal.invariant-loop-index
invariant-loop-index l = FirstHaveLimits l.index l.tables
