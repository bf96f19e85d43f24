use Rattle.rbg_moves.proofs.list.list_moves.Goals as goal

pub returns : goal.returns
returns g c = rw (← c.rules_of.ensures) c.list_sorted.ensures
