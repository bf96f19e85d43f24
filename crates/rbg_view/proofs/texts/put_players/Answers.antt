-- One more name is written.
use Rattle.std.proofs.Common.{◌≡◌, ◌+◌, ◌-◌, arith}
use Rattle.rbg_view.specs.Texts.{name_item}
use Rattle.rbg_view.proofs.Writing.{item_more}
use Rattle.rbg_view.proofs.texts.put_players.Goals as goal

pub loop-index-preserved : goal.loop-index-preserved
loop-index-preserved c =
    let same : c.loop-index.index + 1 - 1 ≡ c.loop-index.index = omega arith in
    item_more name_item _ _ _ _ _ _ c.loop-index.invariant (rw same at c.player_name.ensures) c.in_ok-put_name_item.ensures
