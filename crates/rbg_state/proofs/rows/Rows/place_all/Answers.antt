use Rattle.rbg_base.proofs.Common.{◌∙◌, refl}
use Rattle.rbg_state.proofs.RowLemmas.{rows_after_push}
use Rattle.rbg_state.proofs.rows.Rows.place_all.Goals as goal

pub loop-index-preserved : goal.loop-index-preserved
loop-index-preserved c = (
  rw c.change.ensures.columns (rows_after_push _ _ _ _ _ _ c.loop-index.invariant.0 refl c.change.ensures.changed),
  c.change.ensures.columns ∙ c.loop-index.invariant.1,
)
