use Rattle.rbg_moves.proofs.trying.try_move.Goals as goal

pub returns : goal.returns
returns g c = rw (← c.rules_of.ensures) c.try_pairs.ensures.tries
