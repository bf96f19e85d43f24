-- The proof of `packing::set_glances`.
use Rattle.std.proofs.Common.{◌+◌, refl}
use Rattle.rbg_auto.proofs.CompactLemmas.{tells_right}
use Rattle.rbg_auto.proofs.packing.set_glances.Goals as goal

pub loop-index-preserved : goal.loop-index-preserved
loop-index-preserved c =
    let right = c.glance_of-glance.ensures c.args.game.now.rules (c.loop-index.index + 1) c.action.ensures in
    tells_right c.loop-index.automaton _ c.args.game.now.rules (c.loop-index.index + 1) c.glance_of-glance.result refl refl c.set_glance.ensures right c.loop-index.invariant
