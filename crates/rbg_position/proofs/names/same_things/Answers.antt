-- One name more is the same.
use Rattle.rbg_position.proofs.Items.{same_more}
use Rattle.rbg_position.proofs.Texts.{same_text}
use Rattle.rbg_position.proofs.names.same_things.Goals as goal

pub loop-index-preserved : goal.loop-index-preserved
loop-index-preserved c =
    same_more _ _ _ _ _ c.loop-index.invariant c.name_of.ensures c.name_of-in-loop-index.ensures (same_text _ _ c.if-ne.ensures)
