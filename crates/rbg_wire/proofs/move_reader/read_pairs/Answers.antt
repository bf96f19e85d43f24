-- The clauses, from the one result for each text.
use Rattle.rbg_wire.proofs.PairLemmas.{one_spelled, tells_pairs}
use Rattle.rbg_wire.proofs.move_reader.read_pairs.Goals as goal

pub returns : goal.returns
returns c = tells_pairs _ (one_spelled c.args.text.now) _ c.pairs_of.ensures
