-- A vertex with two edges of one direction.
use Rattle.rbg_base.proofs.Common.{◌≡◌, ℕ, get_or, map, sym, ap, ◌∙◌, subst, inl, inr, arith, cases_lt, length-map}
use Rattle.rbg_board.proofs.Common.{HasTwice, AreDifferent, Written, directions_in, written, written_of}
use Rattle.rbg_board.proofs.CellReads.{cell_read}
use Rattle.rbg_board.proofs.graphs.some_leads_twice.Goals as goal

pub returns-then-leads_twice : goal.returns-then-leads_twice
returns-then-leads_twice c =
    let cell = c.cell-item.result in
    let direction : ℕ × ℕ → ℕ = λ edge. edge.0 in (
      c.loop-cell.cell-index,
      written cell,
      omega (arith, length-map c.args.cells.now written),
      cell_read c.args.cells.now c.loop-cell.cell-index cell c.loop-cell-test.true c.cell-item.is (written cell),
      subst HasTwice (ap (map direction) c.deref.ensures.value) c.if-leads_twice.ensures,
    )

pub loop-cell-preserved : goal.loop-cell-preserved
loop-cell-preserved c = λ k d within. elim (cases_lt k c.loop-cell.cell-index) [
  | inl earlier ↦ c.loop-cell.invariant k d earlier
  | inr last ↦
      let cell = c.cell-item.result in
      let place : c.loop-cell.cell-index ≡ k = omega arith in
      let direction : ℕ × ℕ → ℕ = λ edge. edge.0 in
      let there = sym (cell_read c.args.cells.now c.loop-cell.cell-index cell c.loop-cell-test.true c.cell-item.is d) ∙ ap (λ m. get_or (written_of c.args.cells.now) m d) place in
      subst AreDifferent (ap (map direction) c.deref.ensures.value ∙ ap (λ (w : Written). directions_in w.edges) there) c.if-leads_twice.ensures
]
