-- None so far is a shift.
use Rattle.std.proofs.Common.{take, All}
use Rattle.rbg_shifts.specs.Leaps.{IsShiftAt}
use Rattle.rbg_flat.proofs.paths.no_shift.Given as goal

abbrev pub invariant-loop-position : goal.invariant-loop-position
invariant-loop-position l = All (λ q. ¬ IsShiftAt l.game.rules q) (take l.position-index l.positions)
