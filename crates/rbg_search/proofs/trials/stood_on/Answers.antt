use Rattle.rbg_base.proofs.Common.{◌≡◌, sym, ◌∙◌, slice_index, get_or_from_slice_get}
use Rattle.rbg_search.proofs.Glances.{on_leads, on_another}
use Rattle.rbg_search.proofs.trials.stood_on.Goals as goal

pub returns-then-piece-clause-trial : goal.returns-then-piece-clause-trial
returns-then-piece-clause-trial c = λ game q numbered here.
    let s = c.args.state.now.state in
    let stands : slice_index s.pieces c.args.vertex ≡ c.piece.result = get_or_from_slice_get s.pieces c.args.vertex c.piece.result 0 c.piece.ensures in
    on_leads game numbered s c.args.vertex q c.args.piece here (stands ∙ c.if-piece.true)

pub returns-else-piece-clause-trial : goal.returns-else-piece-clause-trial
returns-else-piece-clause-trial c = λ game q numbered here.
    let s = c.args.state.now.state in
    let stands : slice_index s.pieces c.args.vertex ≡ c.piece.result = get_or_from_slice_get s.pieces c.args.vertex c.piece.result 0 c.piece.ensures in
    on_another game numbered s c.args.vertex q c.args.piece here (λ is. c.if-piece.false (sym stands ∙ is))
