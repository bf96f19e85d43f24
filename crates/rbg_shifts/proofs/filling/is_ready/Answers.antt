use Rattle.std.proofs.Common.{◌≢◌, ◌∙◌, ℕ, List, Bool, get_or, sym, subst, arith}
use Rattle.rbg_shifts.proofs.Common.{IsShiftAt, IsMarked}
use Rattle.rbg_shifts.proofs.Cases.{not_both}
use Rattle.rbg_shifts.proofs.Fillings.{each_listed}
use Rattle.rbg_shifts.proofs.Places.{before, last, last_place}
use Rattle.rbg_shifts.proofs.filling.is_ready.Goals as goal
use Rattle.rbg_shifts.proofs.filling.is_ready.Goals.{else-is_shift-via-then-is_shift+else-not-is_marked_or, else-is_shift-via-else-is_shift}

pub loop-listed-preserved : goal.loop-listed-preserved
loop-listed-preserved c =
    let marks : List Bool = c.args.filled.now in
    let afters : List ℕ = c.args.lists.now.afters.items in
    let xs : List ℕ = c.list-listed-items.result.now in
    let k : ℕ = c.loop-listed.listed-index in
    let here : IsShiftAt c.args.ground.now.rules (get_or xs k 0) → get_or afters (get_or xs k 0) 0 ≢ c.args.node → IsMarked marks (get_or afters (get_or xs k 0) 0) =
    λ s differ. elim c.else-is_shift.branch [
      | else-is_shift-via-then-is_shift+else-not-is_marked_or w ↦ subst (IsMarked marks) w.after.ensures (w.is_marked_or.ensures w.if-not-is_marked_or.false (λ e. differ (sym w.after.ensures ∙ e)))
      | else-is_shift-via-else-is_shift w ↦ absurd (not_both (c.is_shift.ensures.1 s) w.if-is_shift.false)
    ] in
    λ i below. elim (last_place k i below) [
      | before e ↦ c.loop-listed.invariant i e
      | last e ↦ subst (λ (m : ℕ). IsShiftAt c.args.ground.now.rules (get_or xs m 0) → get_or afters (get_or xs m 0) 0 ≢ c.args.node → IsMarked marks (get_or afters (get_or xs m 0) 0)) (sym e) here
    ]

pub returns : goal.returns
returns c = λ t.
    each_listed (λ q. IsShiftAt c.args.ground.now.rules q → get_or c.args.lists.now.afters.items q 0 ≢ c.args.node → IsMarked c.args.filled.now (get_or c.args.lists.now.afters.items q 0))
    c.list-listed-items.ensures (λ i below. c.loop-listed.invariant i (omega (arith, below, c.loop-listed-test.false)))
