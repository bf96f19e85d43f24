use Rattle.std.proofs.Common.{◌≡◌, ◌<◌, ℕ, true, get_or}
use Rattle.rbg_serving.specs.internal.Lines.{absent, HasAll}
use Rattle.rbg_serving.proofs.ending.live_have_all.Given as goal

abbrev pub invariant-loop-index : goal.invariant-loop-index
invariant-loop-index g l = (k : ℕ) → k < l.index → (get_or l.states k absent).live ≡ true → HasAll (g.E.Engine.queued l.outbox) l.states k
