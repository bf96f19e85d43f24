use Rattle.rbg_hall.proofs.Keeping.{new_table_kept}
use Rattle.rbg_hall.proofs.kept_table.KeptTable.new.Goals as goal

pub invariant_of-result : goal.invariant_of-result
invariant_of-result g c = λ _. new_table_kept g.W.Log.told c.args.table c.requires
