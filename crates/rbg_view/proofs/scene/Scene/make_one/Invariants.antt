-- The keeper has moved for as long as none of the moves could be made.
use Rattle.std.proofs.Common.{◌-◌}
use Rattle.rbg_moves.specs.Limits.{most_keeper_moves}
use Rattle.rbg_view.specs.Moving.{Waits}
use Rattle.rbg_view.proofs.scene.Scene.make_one.Given as goal

abbrev pub invariant-loop-self : goal.invariant-loop-self
invariant-loop-self l = Waits l.readings l.fn.self.play l.self.play

abbrev pub decreases-loop-self : goal.decreases-loop-self
decreases-loop-self l = most_keeper_moves - l.self.play.in_a_row
