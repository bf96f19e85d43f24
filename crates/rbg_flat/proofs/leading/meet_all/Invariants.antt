-- The targets so far.
use Rattle.std.proofs.Common.{take}
use Rattle.rbg_flat.proofs.Common.{IsToTryIn, Meets, IsAmong}
use Rattle.rbg_flat.proofs.leading.meet_all.Given as goal

abbrev pub invariant-loop-target : goal.invariant-loop-target
invariant-loop-target l = Meets l.fn.sets l.sets (IsAmong (take l.target-index l.targets)) (IsToTryIn l.setting)
