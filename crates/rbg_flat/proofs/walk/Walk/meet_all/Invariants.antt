-- The targets so far.
use Rattle.std.proofs.Common.{take}
use Rattle.rbg_flat.proofs.Common.{IsAmong}
use Rattle.rbg_flat.specs.internal.Walking.{IsWalk, GoesOn}
use Rattle.rbg_flat.proofs.walk.Walk.meet_all.Given as goal

abbrev pub invariant-loop-target : goal.invariant-loop-target
invariant-loop-target l = record {
  walk : IsWalk l.setting.game.now l.setting.state.now.state l.self;
  goes : (was : IsWalk l.setting.game.now l.setting.state.now.state l.fn.self) → GoesOn l.setting.game.now l.setting.state.now.state l.fn.self was l.self (IsAmong (take l.target-index l.targets));
}
