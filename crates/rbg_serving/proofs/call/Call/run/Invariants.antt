use Rattle.std.proofs.Common.{◌≤◌, ◌-◌}
use Rattle.rbg_serving.specs.internal.InCall.{Start, InCallOf, PassedOf, Stays}
use Rattle.rbg_serving.proofs.call.Call.run.Given as goal

abbrev pub invariant-loop-buffer : goal.invariant-loop-buffer
invariant-loop-buffer g l =
    Stays (λ engine. g.E.Engine.lines (g.E.Engine.fixed engine)) g.E.Engine.queued g.E.Engine.fixed l.fn.self l.self
    × (g.E.Engine.valid l.fn.self.engine.now → g.E.Engine.valid l.self.engine.now)
    × (l.done ≤ l.rounds)
    × ((start : Start _) →
    InCallOf g.L.Line.told g.L.Line.failure_count g.E.Engine.behaviour g.E.Engine.queued g.C.Clock.told start 0 l.fn.self →
    PassedOf g.L.Line.told g.L.Line.failure_count g.E.Engine.behaviour g.E.Engine.queued g.C.Clock.told start l.done l.self)

abbrev pub decreases-loop-buffer : goal.decreases-loop-buffer
decreases-loop-buffer g l = l.rounds - l.done
