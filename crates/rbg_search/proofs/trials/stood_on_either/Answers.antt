use Rattle.rbg_base.proofs.Common.{◌≡◌, inl, inr, sym, ◌∙◌, slice_index, get_or_from_slice_get}
use Rattle.rbg_search.proofs.Glances.{either_leads, either_another}
use Rattle.rbg_search.proofs.trials.stood_on_either.Goals as goal

pub returns-then-here-other-clause-trial : goal.returns-then-here-other-clause-trial
returns-then-here-other-clause-trial c = λ game q numbered here.
    let s = c.args.state.now.state in
    let stands : slice_index s.pieces c.args.vertex ≡ c.piece-here.result = get_or_from_slice_get s.pieces c.args.vertex c.piece-here.result 0 c.piece-here.ensures in
    either_leads game numbered s c.args.vertex q c.args.piece c.args.other here
    (elim c.if-here-other.either [
      | inl is ↦ inl (stands ∙ is)
      | inr is ↦ inr (stands ∙ is.1)
    ])

pub returns-else-here-other-clause-trial : goal.returns-else-here-other-clause-trial
returns-else-here-other-clause-trial c = λ game q numbered here.
    let s = c.args.state.now.state in
    let stands : slice_index s.pieces c.args.vertex ≡ c.piece-here.result = get_or_from_slice_get s.pieces c.args.vertex c.piece-here.result 0 c.piece-here.ensures in
    either_another game numbered s c.args.vertex q c.args.piece c.args.other here (λ is. c.if-here-other.false.0 (sym stands ∙ is)) (λ is. c.if-here-other.false.1 (sym stands ∙ is))
