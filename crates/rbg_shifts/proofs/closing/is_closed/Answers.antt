use Rattle.rbg_base.proofs.Common.{ℕ, List, get_or, take, sym, subst, All, IsTrue, All-push}
use Rattle.std.proofs.lemmas.List.{take_more, take_all}
use Rattle.rbg_shifts.proofs.Common.{list_at, RecordsStepEverywhere}
use Rattle.rbg_shifts.proofs.Cases.{not_both}
use Rattle.rbg_shifts.proofs.closing.is_closed.Goals as goal
use Rattle.rbg_shifts.proofs.closing.is_closed.Goals.{else-may_end-via-then-may_end+else-not-all_end, else-may_end-via-else-may_end}

pub loop-listed-preserved : goal.loop-listed-preserved
loop-listed-preserved c =
    let xs : List ℕ = c.list-listed-items.result.now in
    let k : ℕ = c.loop-listed.listed-index in
    rw (take_more xs k 0 c.loop-listed-test.true)
    (All-push (RecordsStepEverywhere c.args.ground.now c.args.lists.now c.args.table.now c.args.node) (take k xs) (get_or xs k 0) c.loop-listed.invariant (c.records_step_everywhere.ensures c.if-not-records_step_everywhere.false))

pub returns : goal.returns
returns c = λ t v below.
    let game = c.args.ground.now in
    let lists = c.args.lists.now in
    let table = c.args.table.now in
    let xs : List ℕ = c.list-listed-items.result.now in
    let all : All (RecordsStepEverywhere game lists table c.args.node) (list_at lists.interner c.args.node) =
    subst (λ (ys : List ℕ). All (RecordsStepEverywhere game lists table c.args.node) ys) c.list-listed-items.ensures
    (subst (λ (ys : List ℕ). All (RecordsStepEverywhere game lists table c.args.node) ys) (take_all c.loop-listed.listed-index xs c.loop-listed-test.false) c.loop-listed.invariant) in
    record {
      ends = λ is. elim c.else-may_end.branch [
        | else-may_end-via-then-may_end+else-not-all_end w ↦ w.all_end.ensures w.if-not-all_end.false v below
        | else-may_end-via-else-may_end w ↦ absurd (not_both (subst IsTrue (sym c.may_end.ensures) is) w.if-may_end.false)
      ];
      told = λ k d there. all k d there v below;
    }
