-- The branches of the positions so far.
use Rattle.rbg_shifts.specs.internal.Branches.{AreBranchesUpTo}
use Rattle.rbg_shifts.proofs.branches.branches_of.Given as goal

abbrev pub invariant-loop-position : goal.invariant-loop-position
invariant-loop-position l = AreBranchesUpTo l.ground.rules l.afters l.positions l.branches.items l.position-index
