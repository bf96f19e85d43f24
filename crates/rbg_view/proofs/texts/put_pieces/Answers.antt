-- One more name is written.
use Rattle.rbg_view.specs.Texts.{name_item}
use Rattle.rbg_view.proofs.Writing.{item_more}
use Rattle.rbg_view.proofs.texts.put_pieces.Goals as goal

pub loop-index-preserved : goal.loop-index-preserved
loop-index-preserved c = item_more name_item _ _ _ _ _ _ c.loop-index.invariant c.piece_name.ensures c.in_ok-put_name_item.ensures
