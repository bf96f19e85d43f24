-- One more move.
use Rattle.rbg_c.proofs.Listed.{moves_more}
use Rattle.rbg_c.proofs.listing.numbers_of.Goals as goal

pub loop-index-preserved : goal.loop-index-preserved
loop-index-preserved c = moves_more c.loop-index.numbers.items _ c.args.moves.now c.loop-index.index c.get.result.now c.loop-index.invariant c.get.ensures.pairs c.in_ok-push_move.ensures
