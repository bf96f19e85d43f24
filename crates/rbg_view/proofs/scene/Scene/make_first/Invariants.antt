-- Nothing has changed, and none of the moves so far can be made.
use Rattle.std.proofs.Common.{◌≡◌, take}
use Rattle.rbg_view.specs.Moving.{CanMakeNone}
use Rattle.rbg_view.proofs.scene.Scene.make_first.Given as goal

abbrev pub invariant-loop-reading : goal.invariant-loop-reading
invariant-loop-reading l = (l.self.play ≡ l.fn.self.play) × CanMakeNone l.fn.self.play (take l.reading-index l.readings)
