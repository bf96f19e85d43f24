-- The log of a table.
use Rattle.std.proofs.Common.{sym, ◌∙◌}
use Rattle.rbg_hall.proofs.Logs.{is_log_there, told_nowhere, told_there}
use Rattle.rbg_hall.proofs.numbered.log_of.Goals as goal

pub returns-in-Some-clause-is : goal.returns-in-Some-clause-is
returns-in-Some-clause-is g c = c.log.ensures.is ∙ sym (told_there c.args.tables.now c.args.table c.in-Some.index c.index-tables-index.result c.in-Some.ensures.found c.index-tables-index.is)

pub returns-in-None-clause-is : goal.returns-in-None-clause-is
returns-in-None-clause-is g c = sym (told_nowhere c.args.tables.now c.args.table c.in-None.ensures.none)

pub returns-in-Some-clause-has : goal.returns-in-Some-clause-has
returns-in-Some-clause-has g c = is_log_there g.W.Log.told c.args.tables.now c.args.table c.in-Some.index c.index-tables-index.result c.log.result c.in-Some.ensures.found c.index-tables-index.is c.log.ensures.has
