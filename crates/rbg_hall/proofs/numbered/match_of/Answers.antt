-- The match of a table.
use Rattle.std.proofs.Common.{sym, ◌∙◌}
use Rattle.rbg_hall.proofs.Logs.{begun_nowhere, begun_there}
use Rattle.rbg_hall.proofs.numbered.match_of.Goals as goal

pub returns-in-Some-clause-is : goal.returns-in-Some-clause-is
returns-in-Some-clause-is g c = c.begun.ensures.is ∙ sym (begun_there c.args.tables.now c.args.table c.in-Some.index c.index-tables-index.result c.in-Some.ensures.found c.index-tables-index.is)

pub returns-in-None-clause-is : goal.returns-in-None-clause-is
returns-in-None-clause-is g c = sym (begun_nowhere c.args.tables.now c.args.table c.in-None.ensures.none)
