use Rattle.rbg_base.proofs.Common.{length, refl, set, subst, sym, on_err_weaker, on_ok_weaker, option_copied}
use Rattle.rbg_hall.proofs.Halls.{past_said, line_sends, line_ends, found_by, hall_stops}
use Rattle.rbg_hall.specs.internal.Parts.{IsReady}
use Rattle.rbg_hall.proofs.Openings.{ready_with}
use Rattle.rbg_hall.proofs.Taking.{on_error}
use Rattle.rbg_hall.proofs.events.hear_line.Goals as goal

pub returns-then-index-lines-clause-writes : goal.returns-then-index-lines-clause-writes
returns-then-index-lines-clause-writes g c = past_said g.W.Log.told c.args.tables.now c.args.lines.now c.args.by.line c.args.by.at c.if-index-lines.true c.args.out.now.queued (option_copied c.args.bytes)

pub returns-in_ok-next-in-Some-clause-writes : goal.returns-in_ok-next-in-Some-clause-writes
returns-in_ok-next-in-Some-clause-writes g c =
    let found = found_by c.args.lines.now c.args.by.line c.index-lines-index.result c.replace-one.result c.index-lines-index.is c.replace-one.ensures.value in
    rw c.in-Some.is (line_sends g.W.Log.told c.args.tables.now c.hear_piece.new.tables c.args.lines.now c.args.by.line c.args.by.at c.replace-one.result c.if-index-lines.false found c.args.out.now.queued c.hear_piece.new.out.queued c.in-Some.bytes.now c.replace-one.new.dest c.in_ok-next-in-Some.next c.in_ok-next-in-Some.ensures.hears)

pub returns-in_err-next-in-Some-clause-stops : goal.returns-in_err-next-in-Some-clause-stops
returns-in_err-next-in-Some-clause-stops g c = on_error _ (hall_stops c.in_err-next-in-Some.ensures.stops)

pub returns-in-None-clause-writes : goal.returns-in-None-clause-writes
returns-in-None-clause-writes g c =
    let found = found_by c.args.lines.now c.args.by.line c.index-lines-index.result c.replace-one.result c.index-lines-index.is c.replace-one.ensures.value in
    rw c.in-None.is (on_ok_weaker c.hear_end.result
    (line_ends g.W.Log.told c.args.tables.now c.hear_end.new.tables c.args.lines.now c.args.by.line c.args.by.at c.replace-one.result c.if-index-lines.false found c.args.out.now.queued c.hear_end.new.out.queued c.replace-one.new.dest c.replace-one.ensures.after)
    c.hear_end.ensures.hears)

pub returns-in-None-clause-stops : goal.returns-in-None-clause-stops
returns-in-None-clause-stops g c = on_err_weaker c.hear_end.result hall_stops c.hear_end.ensures.stops

pub returns-in_ok-next-in-Some-clause-ready : goal.returns-in_ok-next-in-Some-clause-ready
returns-in_ok-next-in-Some-clause-ready g c =
    let tables = length c.args.tables.now in
    let over = subst (IsReady tables) (sym c.replace-one.ensures.after) tt in
    ready_with tables _ (set c.args.lines.now c.args.by.line c.replace-one.new.dest) c.args.by.line c.in_ok-next-in-Some.next
    (ready_with tables tables c.args.lines.now c.args.by.line c.replace-one.new.dest c.requires over refl) c.in_ok-next-in-Some.ensures.ready c.in_ok-next-in-Some.ensures.count

pub returns-in-None-clause-ready : goal.returns-in-None-clause-ready
returns-in-None-clause-ready g c =
    let tables = length c.args.tables.now in
    ready_with tables _ c.args.lines.now c.args.by.line c.replace-one.new.dest c.requires (subst (IsReady tables) (sym c.replace-one.ensures.after) tt) c.hear_end.ensures.count
