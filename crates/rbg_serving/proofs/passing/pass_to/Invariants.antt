use Rattle.std.proofs.Common.{length, ◌-◌, ◌≡◌, ◌≤◌, true}
use Rattle.rbg_serving.proofs.Common.{Told, Tells, has_taken}
use Rattle.rbg_serving.proofs.passing.pass_to.Given as goal

abbrev pub invariant-loop-state : goal.invariant-loop-state
invariant-loop-state g l =
    (l.fn.state.taken ≤ length l.bytes → l.state.taken ≤ length l.bytes)
    × (l.state.live ≡ true)
    × (l.fn.state.taken ≤ l.state.taken)
    × ((before : Told) →
    Tells g.L.Line.told g.L.Line.failure_count l.fn.line (has_taken before l.bytes l.fn.state.taken) →
    Tells g.L.Line.told g.L.Line.failure_count l.line (has_taken before l.bytes l.state.taken))

abbrev pub decreases-loop-state : goal.decreases-loop-state
decreases-loop-state g l = length l.bytes - l.state.taken
