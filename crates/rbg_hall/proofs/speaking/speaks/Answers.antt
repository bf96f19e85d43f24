-- A line that asked for a table may speak if it has a seat there.
use Rattle.std.proofs.Common.{length, subst, sym, ◌↔◌, IsTrue}
use Rattle.rbg_hall.proofs.Common.{SpeaksAs, IsReady, line_of, states_of}
use Rattle.rbg_hall.proofs.Logs.{seat_there}
use Rattle.rbg_hall.proofs.speaking.speaks.Goals as goal

pub returns-in-Asks : goal.returns-in-Asks
returns-in-Asks g c =
    let within = subst (IsReady (length c.args.tables.now)) c.in-Asks.is c.requires in
    subst (λ one. IsTrue c.has_seat.result ↔ SpeaksAs (states_of c.args.tables.now) c.args.line (line_of one)) (sym c.in-Asks.is)
    (seat_there c.args.tables.now _ c.args.line c.index-tables-index.result within.1 c.index-tables-index.is c.has_seat.ensures)
