use Rattle.rbg_base.proofs.Common.{ap, ◌∙◌, length, arith, length_push}
use Rattle.rbg_flat.specs.Onward.{IsOnward}
use Rattle.rbg_flat.proofs.Onwards.{each_more}
use Rattle.rbg_flat.proofs.onward.all_onward.Goals as goal

pub loop-index-preserved : goal.loop-index-preserved
loop-index-preserved g c = record {
  size =
      let long = ap length c.in_ok-push.ensures.items ∙ length_push c.loop-index.onward.items c.onward_from.result in
      let size = c.loop-index.invariant.size in
      omega (arith, long, size);
  told = each_more (IsOnward c.args.game.now.rules) c.loop-index.onward.items c.push.new.self.items c.onward_from.result c.loop-index.index c.in_ok-push.ensures.items c.loop-index.invariant.size c.loop-index.invariant.told c.onward_from.ensures;
}
