use Rattle.std.proofs.Common.{◌<◌, ℕ}
use Rattle.rbg_serving.specs.internal.Lines.{HasAll}
use Rattle.rbg_serving.proofs.ending.is_whole.Given as goal

abbrev pub invariant-loop-index : goal.invariant-loop-index
invariant-loop-index g l = (k : ℕ) → k < l.index → HasAll (g.E.Engine.queued l.outbox) l.states k
