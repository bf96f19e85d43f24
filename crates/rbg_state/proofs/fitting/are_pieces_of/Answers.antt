-- One more vertex has a piece of the game, or not.
use Rattle.std.proofs.Common.{◌<◌, length, slice_index, refl, arith}
use Rattle.std.proofs.lemmas.Bool.{false≢true}
use Rattle.rbg_state.proofs.OneMore.{one_more_fits}
use Rattle.rbg_state.proofs.fitting.are_pieces_of.Goals as goal

pub loop-vertex-preserved : goal.loop-vertex-preserved
loop-vertex-preserved c =
    one_more_fits (λ v. slice_index c.args.pieces.now v < length c.args.game.now.pieces) c.loop-vertex.vertex c.loop-vertex.invariant
    (omega (arith, c.if-pieces-vertex.false, c.pieces-kinds.ensures.count))

pub returns-then-pieces-vertex : goal.returns-then-pieces-vertex
returns-then-pieces-vertex c = (λ no. absurd (false≢true no), λ all. absurd (omega (arith, all c.loop-vertex.vertex c.loop-vertex-test.true, c.if-pieces-vertex.true, c.pieces-kinds.ensures.count)))

pub returns : goal.returns
returns c = (λ _ v below. c.loop-vertex.invariant v (omega (arith, below, c.loop-vertex-test.false, c.loop-vertex.auto.vertex-end)), λ _. refl)
