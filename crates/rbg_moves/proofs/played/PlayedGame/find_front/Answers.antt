use Rattle.rbg_moves.proofs.played.PlayedGame.find_front.Goals as goal

pub returns-clause-finds : goal.returns-clause-finds
returns-clause-finds c = rw (← c.rules.ensures) c.find_front.ensures.finds

pub returns-clause-tallies : goal.returns-clause-tallies
returns-clause-tallies c = rw (← c.rules.ensures) c.find_front.ensures.tallies
