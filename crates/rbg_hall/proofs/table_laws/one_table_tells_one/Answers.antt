use Rattle.rbg_hall.proofs.Alike.{one_table}
use Rattle.rbg_hall.proofs.table_laws.one_table_tells_one.Goals as goal

pub returns : goal.returns
returns c = one_table
