use Rattle.rbg_moves.proofs.played.PlayedGame.try_move.Goals as goal

pub returns-clause-tries : goal.returns-clause-tries
returns-clause-tries c = rw (← c.rules.ensures) c.try_pairs.ensures.tries

pub returns-clause-tallies : goal.returns-clause-tallies
returns-clause-tallies c = rw (← c.rules.ensures) c.try_pairs.ensures.tallies
