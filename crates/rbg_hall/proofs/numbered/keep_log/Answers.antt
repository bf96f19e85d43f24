-- The ledgers after a log was given to a table.
use Rattle.std.proofs.Common.{ap, get_or}
use Rattle.rbg_hall.proofs.Logs.{kept_nowhere, kept_there}
use Rattle.rbg_hall.proofs.numbered.keep_log.Goals as goal

pub returns-in-Some-clause-states : goal.returns-in-Some-clause-states
returns-in-Some-clause-states g c =
    let tables = c.args.tables.now in
    (kept_there tables c.args.table c.in-Some.index (get_or tables c.in-Some.index c.index-tables-index.result) c.keep.new.self c.args.log c.in-Some.ensures.found (ap (get_or tables c.in-Some.index) c.index-tables-index.is) c.keep.ensures).0

pub returns-in-Some-clause-ledgers : goal.returns-in-Some-clause-ledgers
returns-in-Some-clause-ledgers g c =
    let tables = c.args.tables.now in
    (kept_there tables c.args.table c.in-Some.index (get_or tables c.in-Some.index c.index-tables-index.result) c.keep.new.self c.args.log c.in-Some.ensures.found (ap (get_or tables c.in-Some.index) c.index-tables-index.is) c.keep.ensures).1

pub returns-in-None-clause-ledgers : goal.returns-in-None-clause-ledgers
returns-in-None-clause-ledgers g c = kept_nowhere c.args.tables.now c.args.table c.args.log c.in-None.ensures.none
