-- The clauses, from the one result for each text.
use Rattle.rbg_wire.proofs.PairLemmas.{one_move, tells_pairs}
use Rattle.rbg_wire.proofs.move_reader.read_move.Goals as goal

pub returns : goal.returns
returns c = tells_pairs _ (one_move c.args.text.now) _ c.move_of.ensures
