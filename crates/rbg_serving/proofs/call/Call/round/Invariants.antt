use Rattle.std.proofs.Common.{◌≡◌, length, ℕ}
use Rattle.rbg_serving.specs.internal.InCall.{Start, PassedOf, Stays}
use Rattle.rbg_serving.proofs.call.Call.round.Given as goal

abbrev pub invariant-loop-index : goal.invariant-loop-index
invariant-loop-index g l =
    Stays (λ engine. g.E.Engine.lines (g.E.Engine.fixed engine)) g.E.Engine.queued g.E.Engine.fixed l.fn.self l.self
    × (g.E.Engine.valid l.fn.self.engine.now → g.E.Engine.valid l.self.engine.now)
    × (length l.self.lines.now ≡ l.index-end)
    × ((start : Start _) (rounds : ℕ) →
    PassedOf g.L.Line.told g.L.Line.failure_count g.E.Engine.behaviour g.E.Engine.queued g.C.Clock.told start rounds l.fn.self →
    PassedOf g.L.Line.told g.L.Line.failure_count g.E.Engine.behaviour g.E.Engine.queued g.C.Clock.told start rounds l.self)
