use Rattle.rbg_moves.proofs.played.PlayedGame.list_moves.Goals as goal

pub returns : goal.returns
returns c = rw (← c.rules.ensures) c.list_sorted.ensures
