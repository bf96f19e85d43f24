use Rattle.std.proofs.Common.{ℕ, sym, subst}
use Rattle.rbg_shifts.specs.internal.Tables.{AreClosedAt}
use Rattle.rbg_shifts.proofs.Places.{before, last, last_place}
use Rattle.rbg_shifts.proofs.rounds.are_done.Goals as goal

pub loop-node-preserved : goal.loop-node-preserved
loop-node-preserved c = λ n below. elim (last_place c.loop-node.node n below) [
  | before e ↦ c.loop-node.invariant n e
  | last e ↦ subst (λ (m : ℕ). AreClosedAt c.args.ground.now c.args.lists.now c.args.table.now m) (sym e) (c.is_done.ensures c.if-not-is_done.false)
]
