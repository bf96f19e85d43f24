use Rattle.std.proofs.Common.{get_or, ap, sym, subst, length}
use Rattle.rbg_wire.specs.Streams.{dropping}
use Rattle.rbg_hall.proofs.Common.{over, PieceHeard, IsReady, line_of}
use Rattle.rbg_hall.proofs.Pieces.{fed_by, fed_whole, heard_again, heard_over, ready_again}
use Rattle.rbg_hall.proofs.Taking.{on_error}
use Rattle.rbg_hall.proofs.Ticking.{none_stops, one_stops}
use Rattle.rbg_hall.proofs.hearing.hear_piece.Goals as goal

pub returns-in-Over-clause-hears : goal.returns-in-Over-clause-hears
returns-in-Over-clause-hears g c =
    subst (λ one. PieceHeard g.W.Log.told c.args.tables.now (line_of one) c.args.by.line c.args.by.at c.args.bytes.now c.args.tables.now over c.args.out.now.queued c.args.out.now.queued) (sym c.in-Over.is)
    (heard_over c.args.tables.now c.args.by.line c.args.by.at dropping c.args.bytes.now c.args.out.now.queued)

pub returns-in_ok-hear_from-in-Asks-clause-hears : goal.returns-in_ok-hear_from-in-Asks-clause-hears
returns-in_ok-hear_from-in-Asks-clause-hears g c =
    let tables = c.args.tables.now in
    let index = c.in-Asks.index in
    let ready = subst (IsReady (length tables)) c.in-Asks.is c.requires in
    let fills = fed_by c.in-Asks.inbox c.feed.new.self c.args.bytes.now ready.0 c.in_ok-feed-in-Asks.ensures.ok in
    rw c.in-Asks.is
    (heard_again tables c.args.by.line c.args.by.at c.in-Asks.inbox.rest c.args.bytes.now index c.hear_from.new.inbox c.feed.new.self (get_or tables index c.index-tables-index.result) c.hear_from.new.table c.args.out.now.queued c.hear_from.new.out.queued ready.1 fills (ap (get_or tables index) c.index-tables-index.is) c.in_ok-hear_from-in-Asks.ensures.hears c.in_ok-hear_from-in-Asks.ensures.inbox)

pub returns-in_err-feed-in-Asks-clause-stops : goal.returns-in_err-feed-in-Asks-clause-stops
returns-in_err-feed-in-Asks-clause-stops g c = on_error _ (none_stops g.W.Log.told c.args.tables.now)

pub returns-in_err-hear_from-in-Asks-clause-stops : goal.returns-in_err-hear_from-in-Asks-clause-stops
returns-in_err-hear_from-in-Asks-clause-stops g c =
    let tables = c.args.tables.now in
    on_error _ (one_stops tables c.in-Asks.index (get_or tables c.in-Asks.index c.index-tables-index.result) c.hear_from.new.table (ap (get_or tables c.in-Asks.index) c.index-tables-index.is) c.in_err-hear_from-in-Asks.ensures.stops)

pub hear_from-requires-clause-items : goal.hear_from-requires-clause-items
hear_from-requires-clause-items g c =
    let ready = subst (IsReady (length c.args.tables.now)) c.in-Asks.is c.requires in
    fed_whole (fed_by c.in-Asks.inbox c.feed.new.self c.args.bytes.now ready.0 c.in_ok-feed-in-Asks.ensures.ok)

pub returns-in_ok-hear_from-in-Asks-clause-ready : goal.returns-in_ok-hear_from-in-Asks-clause-ready
returns-in_ok-hear_from-in-Asks-clause-ready g c =
    let ready = subst (IsReady (length c.args.tables.now)) c.in-Asks.is c.requires in
    ready_again (fed_by c.in-Asks.inbox c.feed.new.self c.args.bytes.now ready.0 c.in_ok-feed-in-Asks.ensures.ok) ready.1 c.in_ok-hear_from-in-Asks.ensures.inbox
