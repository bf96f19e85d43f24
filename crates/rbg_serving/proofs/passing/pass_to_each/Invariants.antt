use Rattle.std.proofs.Common.{◌≡◌, List}
use Rattle.rbg_serving.proofs.Common.{Heard, Intake, Told, AreServed, ArePassed, live_lines}
use Rattle.rbg_serving.proofs.passing.pass_to_each.Given as goal

abbrev pub invariant-loop-index : goal.invariant-loop-index
invariant-loop-index g l =
    ((before : List Told) (heard : List Heard) (since : List Intake) →
    AreServed g.L.Line.told g.L.Line.failure_count before heard (g.E.Engine.queued l.outbox) l.fn.lines l.fn.states since →
    ArePassed g.L.Line.told g.L.Line.failure_count before heard (g.E.Engine.queued l.outbox) l.lines l.states since l.index)
    × (live_lines l.states ≡ live_lines l.fn.states)
