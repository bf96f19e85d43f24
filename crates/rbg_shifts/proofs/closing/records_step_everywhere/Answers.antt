use Rattle.std.proofs.Common.{ℕ, sym, subst, arith}
use Rattle.rbg_shifts.proofs.Common.{Entry, entry_at, RecordsStepAt}
use Rattle.rbg_shifts.proofs.Places.{before, last, last_place}
use Rattle.rbg_shifts.proofs.closing.records_step_everywhere.Goals as goal

pub loop-index-preserved : goal.loop-index-preserved
loop-index-preserved c =
    let game = c.args.ground.now in
    let lists = c.args.lists.now in
    let table = c.args.table.now in
    let k : ℕ = c.loop-index.index in
    let here : RecordsStepAt game lists table (entry_at table c.args.node k) k c.args.position =
    subst (λ (e : Entry). RecordsStepAt game lists table e k c.args.position) c.entry-entry.ensures.entry (c.is_told.ensures c.if-not-is_told.false) in
    λ v below. elim (last_place k v below) [
      | before e ↦ c.loop-index.invariant v e
      | last e ↦ subst (λ (w : ℕ). RecordsStepAt game lists table (entry_at table c.args.node w) w c.args.position) (sym e) here
    ]

pub returns : goal.returns
returns c = λ t v below. c.loop-index.invariant v (let count = c.vertices-index-end.ensures.count in omega (arith, below, count, c.loop-index-test.false))
