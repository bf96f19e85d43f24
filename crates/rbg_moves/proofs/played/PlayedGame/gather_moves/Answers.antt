use Rattle.rbg_moves.proofs.played.PlayedGame.gather_moves.Goals as goal

pub returns-clause-lists : goal.returns-clause-lists
returns-clause-lists c = rw (← c.rules.ensures) c.gather_moves.ensures.lists

pub returns-clause-tallies : goal.returns-clause-tallies
returns-clause-tallies c = rw (← c.rules.ensures) c.gather_moves.ensures.tallies
