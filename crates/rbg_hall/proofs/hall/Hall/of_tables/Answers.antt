use Rattle.std.proofs.Common.{length}
use Rattle.rbg_hall.proofs.Openings.{lines_ready}
use Rattle.rbg_hall.proofs.hall.Hall.of_tables.Goals as goal

pub invariant_of-made : goal.invariant_of-made
invariant_of-made g c = lines_ready (length c.args.tables.items) c.in_ok-lines.lines.items c.in_ok-lines.ensures
