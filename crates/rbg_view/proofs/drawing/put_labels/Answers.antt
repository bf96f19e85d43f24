-- One more name.
use Rattle.rbg_view.proofs.Spots.{label_more}
use Rattle.rbg_view.proofs.drawing.put_labels.Goals as goal

pub loop-vertex-preserved : goal.loop-vertex-preserved
loop-vertex-preserved c =
    label_more _ _ _ c.args.names.now c.loop-vertex.vertex c.index-names-vertex.result _ c.loop-vertex-test.true c.index-names-vertex.is c.loop-vertex.invariant c.deref.ensures.value c.in_ok-put_label.ensures
