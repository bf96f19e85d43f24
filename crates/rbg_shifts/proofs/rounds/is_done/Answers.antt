use Rattle.std.proofs.Common.{◌∙◌, sym}
use Rattle.rbg_shifts.proofs.Cases.{not_both}
use Rattle.rbg_shifts.proofs.rounds.is_done.Goals as goal
use Rattle.rbg_shifts.proofs.rounds.is_done.Goals.{then-is_marked, else-is_marked}

pub returns-then-leads_one_way : goal.returns-then-leads_one_way
returns-then-leads_one_way c = λ t v below. elim c.if-is_marked.branch [
  | then-is_marked w ↦ c.requires.filled.closed c.args.node v (sym c.is_marked.ensures ∙ w.if-is_marked.true) (w.leads_one_way.ensures (sym w.value-is ∙ t)) below
  | else-is_marked w ↦ absurd (not_both t (w.value-is ∙ w.if-is_marked.false))
]
