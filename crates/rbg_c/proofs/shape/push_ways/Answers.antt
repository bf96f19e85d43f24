-- One more way.
use Rattle.std.proofs.Common.{ap, ◌∙◌}
use Rattle.rbg_board.specs.Graph.{next}
use Rattle.rbg_c.proofs.Shaped.{ways_more}
use Rattle.rbg_c.proofs.shape.push_ways.Goals as goal

pub loop-index-preserved : goal.loop-index-preserved
loop-index-preserved c =
    ways_more c.args.edges.now.items c.loop-index.edges.items _ c.args.game.now.board c.args.vertex c.loop-index.index _ _ c.loop-index.invariant (c.step.ensures.next ∙ ap (λ b. next b c.args.vertex c.loop-index.index) c.board.ensures.board) c.number_of.ensures c.in_ok-push.ensures.items
