-- One more item.
use Rattle.std.proofs.Common.{◌∙◌, sym}
use Rattle.rbg_macro.specs.internal.Template.{lists_in}
use Rattle.rbg_macro.proofs.Filled.{filled-more}
use Rattle.rbg_macro.proofs.Marks.{fills_more}
use Rattle.rbg_macro.proofs.filling.fill.Goals as goal

pub loop-item-preserved : goal.loop-item-preserved
loop-item-preserved c =
    let added = rw c.loop-item.invariant.0 at c.in_ok-push_item.ensures.tokens in (
      added ∙ sym (filled-more c.args.body.now (lists_in c.args.arguments.now) c.loop-item.item-index _ c.loop-item-test.true),
      fills_more c.args.body.now c.args.arguments.now c.loop-item.item-index _ c.loop-item.tokens.items c.push_item.new.tokens.items c.loop-item-test.true c.loop-item.invariant.1
          c.in_ok-push_item.ensures.marks,
    )
