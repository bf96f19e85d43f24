-- If an item doesn't fit, the body doesn't.
use Rattle.rbg_macro.proofs.Filled.{too_long}
use Rattle.rbg_macro.proofs.filling.filled_len.Goals as goal

pub returns-then-more-room : goal.returns-then-more-room
returns-then-more-room c =
    too_long c.args.body.now c.args.arguments.now c.loop-item.item-index c.loop-item.len c.args.room c.item_len-more.result _
    c.loop-item.invariant c.loop-item-test.true c.item_len-more.ensures c.if-more-room.true
