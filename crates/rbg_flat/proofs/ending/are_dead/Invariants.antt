-- The targets so far are dead.
use Rattle.std.proofs.Common.{take}
use Rattle.rbg_flat.specs.internal.Ending.{AreDead}
use Rattle.rbg_flat.proofs.ending.are_dead.Given as goal

abbrev pub invariant-loop-target : goal.invariant-loop-target
invariant-loop-target l = AreDead l.setting.game.now l.setting.state.now.state (take l.target-index l.targets) l.before
