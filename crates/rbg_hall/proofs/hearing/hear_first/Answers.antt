use Rattle.std.proofs.Common.{◌<◌, length, get_or, ap, rules}
use Rattle.rbg_hall.proofs.Pieces.{fed_by, others_whole, asks_nothing, asks_none, asks_table, heard_nothing, heard_no_table, heard_table, ready_nothing, ready_table}
use Rattle.rbg_hall.proofs.Taking.{on_error}
use Rattle.rbg_hall.proofs.Ticking.{none_stops, one_stops}
use Rattle.rbg_hall.proofs.hearing.hear_first.Goals as goal

pub returns-in-Nothing-clause-hears : goal.returns-in-Nothing-clause-hears
returns-in-Nothing-clause-hears g c =
    let fills = fed_by c.args.inbox c.feed.new.self c.args.bytes.now c.requires c.in_ok-feed.ensures.ok in
    heard_nothing c.args.tables.now c.args.by.line c.args.by.at c.args.inbox.rest c.args.bytes.now c.take_first.new.inbox c.feed.new.self c.args.out.now.queued fills (asks_nothing c.take_first.ensures c.in-Nothing.is)

pub returns-in_ok-refuse-in-NoTable-clause-hears : goal.returns-in_ok-refuse-in-NoTable-clause-hears
returns-in_ok-refuse-in-NoTable-clause-hears g c =
    let fills = fed_by c.args.inbox c.feed.new.self c.args.bytes.now c.requires c.in_ok-feed.ensures.ok in
    heard_no_table c.args.tables.now c.args.by.line c.args.by.at c.args.inbox.rest c.args.bytes.now c.take_first.new.inbox c.feed.new.self c.args.out.now.queued c.refuse.new.self.queued fills (asks_none c.take_first.ensures c.in-NoTable.is) c.in_ok-refuse-in-NoTable.ensures.told

pub returns-in_ok-hear_from-in-Table-clause-hears : goal.returns-in_ok-hear_from-in-Table-clause-hears
returns-in_ok-hear_from-in-Table-clause-hears g c =
    let fills = fed_by c.args.inbox c.feed.new.self c.args.bytes.now c.requires c.in_ok-feed.ensures.ok in
    let tables = c.args.tables.now in
    heard_table tables c.args.by.line c.args.by.at c.args.inbox.rest c.args.bytes.now c.in-Table.index c.take_first.new.inbox c.hear_from.new.inbox c.feed.new.self (get_or tables c.in-Table.index c.index-tables-index.result) c.hear_from.new.table c.args.out.now.queued c.hear_from.new.out.queued fills (asks_table c.in-Table.index c.take_first.ensures c.in-Table.is) (ap (get_or tables c.in-Table.index) c.index-tables-index.is) c.in_ok-hear_from-in-Table.ensures.hears c.in_ok-hear_from-in-Table.ensures.inbox

pub bounds-tables-index : goal.bounds-tables-index
bounds-tables-index g c = (asks_table c.in-Table.index c.take_first.ensures c.in-Table.is).within

pub returns-in-Nothing-clause-ready : goal.returns-in-Nothing-clause-ready
returns-in-Nothing-clause-ready g c =
    ready_nothing (fed_by c.args.inbox c.feed.new.self c.args.bytes.now c.requires c.in_ok-feed.ensures.ok) (asks_nothing c.take_first.ensures c.in-Nothing.is)

pub returns-in_ok-hear_from-in-Table-clause-ready : goal.returns-in_ok-hear_from-in-Table-clause-ready
returns-in_ok-hear_from-in-Table-clause-ready g c =
    ready_table (fed_by c.args.inbox c.feed.new.self c.args.bytes.now c.requires c.in_ok-feed.ensures.ok) (asks_table c.in-Table.index c.take_first.ensures c.in-Table.is) c.in_ok-hear_from-in-Table.ensures.inbox

pub offset_bounds-tables-index : goal.offset_bounds-tables-index
offset_bounds-tables-index g c =
    let within : c.in-Table.index < length c.args.tables.now = (asks_table c.in-Table.index c.take_first.ensures c.in-Table.is).within in
    search (within, rules)

pub returns-in_err-feed-clause-stops : goal.returns-in_err-feed-clause-stops
returns-in_err-feed-clause-stops g c = on_error _ (none_stops g.W.Log.told c.args.tables.now)

pub returns-in_err-refuse-in-NoTable-clause-stops : goal.returns-in_err-refuse-in-NoTable-clause-stops
returns-in_err-refuse-in-NoTable-clause-stops g c = on_error _ (none_stops g.W.Log.told c.args.tables.now)

pub returns-in_err-hear_from-in-Table-clause-stops : goal.returns-in_err-hear_from-in-Table-clause-stops
returns-in_err-hear_from-in-Table-clause-stops g c =
    let tables = c.args.tables.now in
    on_error _ (one_stops tables c.in-Table.index (get_or tables c.in-Table.index c.index-tables-index.result) c.hear_from.new.table (ap (get_or tables c.in-Table.index) c.index-tables-index.is) c.in_err-hear_from-in-Table.ensures.stops)

pub hear_from-requires-clause-items : goal.hear_from-requires-clause-items
hear_from-requires-clause-items g c =
    others_whole (fed_by c.args.inbox c.feed.new.self c.args.bytes.now c.requires c.in_ok-feed.ensures.ok) (asks_table c.in-Table.index c.take_first.ensures c.in-Table.is).taken
