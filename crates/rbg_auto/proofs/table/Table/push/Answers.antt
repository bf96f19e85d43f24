-- The proof of `table::Table::push`.
use Rattle.std.proofs.Common.{refl}
use Rattle.rbg_auto.proofs.BuildingLemmas.{adds_list}
use Rattle.rbg_auto.proofs.table.Table.push.Goals as goal

pub returns-clause-adds : goal.returns-clause-adds
returns-clause-adds c = adds_list c.args.self.now _ c.args.positions.now c.in_ok-extend_from_slice.ensures.items refl refl
