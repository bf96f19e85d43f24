use Rattle.std.proofs.Common.{◌≡◌, ◌++◌, ◌∷◌, [], length, List, ℕ}
use Rattle.rbg_serving.proofs.Common.{Start, InCall, live_lines}
use Rattle.rbg_serving.proofs.passing.pass.Given as goal

abbrev pub invariant-loop-index : goal.invariant-loop-index
invariant-loop-index g l =
    (g.E.Engine.fixed l.engine ≡ g.E.Engine.fixed l.fn.engine)
    × (length (g.E.Engine.queued l.outbox) ≡ length (g.E.Engine.queued l.fn.outbox))
    × (g.E.Engine.valid l.fn.engine → g.E.Engine.valid l.engine)
    × ((start : Start _) (earlier : List ℕ) (rounds : ℕ) →
    InCall g.L.Line.told g.L.Line.failure_count g.E.Engine.behaviour start (earlier ++ l.at ∷ []) rounds l.fn.lines l.fn.states l.fn.engine (g.E.Engine.queued l.fn.outbox) →
    InCall g.L.Line.told g.L.Line.failure_count g.E.Engine.behaviour start (earlier ++ l.at ∷ []) rounds l.lines l.states l.engine (g.E.Engine.queued l.outbox))

abbrev pub decreases-loop-index : goal.decreases-loop-index
decreases-loop-index g l = live_lines l.states
