-- None yet, and one match more.
use Rattle.rbg_hosting.proofs.MomentLemmas.{none_yet, one_more}
use Rattle.rbg_hosting.proofs.in_play.first_moment.Goals as goal

pub loop-index-init : goal.loop-index-init
loop-index-init g c = none_yet c.args.hall.now.state.tables

pub loop-index-preserved : goal.loop-index-preserved
loop-index-preserved g c =
    one_more c.args.hall.now.state.tables c.loop-index.index c.loop-index.first c.last_moment.result c.earlier-first.result c.loop-index.invariant c.last_moment.ensures c.earlier-first.ensures
