-- The changes so far, and the one at this index.
use Rattle.std.proofs.Common.{arith, refl}
use Rattle.rbg_view.proofs.Changes.{changes_step}
use Rattle.rbg_view.proofs.places.put_changed_values.Goals as goal

pub loop-index-preserved : goal.loop-index-preserved
loop-index-preserved c =
    changes_step _ _ _ _ _ c.loop-index.index _ _ c.requires (omega (arith, c.loop-index-test.true)) c.loop-index.invariant refl refl c.in_ok-put_change_at.ensures
