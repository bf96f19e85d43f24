use Rattle.std.proofs.Common.{rules, ◌≡◌, true, false, None, is_none}
use Rattle.rbg_hall.proofs.Places.{there_within}
use Rattle.rbg_hall.proofs.Seated.{ok_so, none_by, late, full, sat, begun_by}
use Rattle.rbg_hall.proofs.hall_table.HallTable.seat.Goals as goal

pub returns-then-not-is_waiting-clause-hears : goal.returns-then-not-is_waiting-clause-hears
returns-then-not-is_waiting-clause-hears c =
    let begun : is_none c.args.self.now.begun ≡ false = search rules in
    ok_so c.refuse.result c.refuse.ensures.told (λ told. late c.args.self.now c.args.line c.args.at c.args.out.now.queued c.refuse.new.self.queued c.requires begun told)

pub returns-in_default-clause-hears : goal.returns-in_default-clause-hears
returns-in_default-clause-hears c = ok_so c.refuse-in_default.result c.refuse-in_default.ensures.told (λ told. full c.args.self.now c.args.line c.args.at c.args.out.now.queued c.refuse-in_default.new.self.queued c.requires c.in_default.ensures.none told)

pub take_seat-requires : goal.take_seat-requires
take_seat-requires c = there_within c.args.self.now.seats c.in-Some.index None c.in-Some.ensures.found.there

pub returns-in-Some-free_seat-clause-hears : goal.returns-in-Some-free_seat-clause-hears
returns-in-Some-free_seat-clause-hears c =
    let waits : is_none c.args.self.now.begun ≡ true = search rules in
    sat c.args.self.now c.take_seat.new.self c.in-Some.index c.in-Some-free_seat.field-0 c.args.line c.args.at c.args.out.now.queued (none_by c.args.self.now.begun waits) c.requires c.in-Some.ensures.found c.take_seat.ensures c.in-Some-free_seat.ensures.found.there

pub returns-in-None-clause-hears : goal.returns-in-None-clause-hears
returns-in-None-clause-hears c =
    let waits : is_none c.args.self.now.begun ≡ true = search rules in
    ok_so c.begin.result c.begin.ensures.begins (λ begins. begun_by c.args.self.now c.take_seat.new.self c.begin.new.self c.in-Some.index c.args.line c.args.at c.args.out.now.queued c.begin.new.out.queued (none_by c.args.self.now.begun waits) c.requires c.in-Some.ensures.found c.take_seat.ensures c.in-None.ensures.none begins)
