-- What each kind of input is to a line with a seat, and to one without.
use Rattle.std.proofs.Common.{ℕ, Option, Some, ap, subst}
use Rattle.rbg_wire.specs.Inboxes.{item_of}
use Rattle.rbg_hall.proofs.Places.{there_within}
use Rattle.rbg_hall.proofs.Seated.{clock_heard, ok_so, piece_heard, stayed, unheard_end, unheard_item, unheard_piece}
use Rattle.rbg_hall.proofs.Sitting.{seat_nowhere, seat_there}
use Rattle.rbg_hall.proofs.TableCommon.{SaysWhole, input_of, line_in}
use Rattle.rbg_hall.specs.declared.input.TableInput.{TableInput}
use Rattle.rbg_hall.proofs.hall_table.HallTable.hear.Goals as goal

-- the line of an input
abbrev from : TableInput → Option ℕ
from input = line_in (input_of input)

pub returns-in-Clock-clause-hears : goal.returns-in-Clock-clause-hears
returns-in-Clock-clause-hears c = rw c.in-Clock.is (ok_so c.play.result c.play.ensures.plays (λ play. clock_heard play))

pub returns-in-Some-clause-hears : goal.returns-in-Some-clause-hears
returns-in-Some-clause-hears c =
    rw c.in-Joins.is
    (stayed c.args.self.now c.in-Joins.line c.in-Joins.at c.in-Some.field-0 c.args.out.now.queued (seat_there c.args.self.now c.in-Joins.line c.in-Some.field-0 c.requires.seat (ap from c.in-Joins.is) c.in-Some.is).0)

pub seat-requires : goal.seat-requires
seat-requires c = seat_nowhere c.args.self.now c.in-Joins.line c.requires.seat (ap from c.in-Joins.is) c.in-None.is

pub returns-in-Some-seat-clause-hears : goal.returns-in-Some-seat-clause-hears
returns-in-Some-seat-clause-hears c =
    rw c.in-Arrives.is
    (ok_so c.play-in-Some-seat.result c.play-in-Some-seat.ensures.plays (λ play. piece_heard c.in-Arrives.line c.in-Some-seat.field-0 (seat_there c.args.self.now c.in-Arrives.line c.in-Some-seat.field-0 c.requires.seat (ap from c.in-Arrives.is) c.in-Some-seat.is).0 play))

pub returns-in-None-seat-clause-hears : goal.returns-in-None-seat-clause-hears
returns-in-None-seat-clause-hears c =
    rw c.in-Arrives.is (unheard_piece c.args.self.now c.in-Arrives.line c.in-Arrives.at c.args.out.now.queued (seat_nowhere c.args.self.now c.in-Arrives.line c.requires.seat (ap from c.in-Arrives.is) c.in-None-seat.is))

pub hear_item-requires-clause-sits : goal.hear_item-requires-clause-sits
hear_item-requires-clause-sits c = (seat_there c.args.self.now c.in-Says.line c.in-Some-seat-2.index c.requires.seat (ap from c.in-Says.is) c.in-Some-seat-2.is).0

pub hear_item-requires-clause-small : goal.hear_item-requires-clause-small
hear_item-requires-clause-small c = (seat_there c.args.self.now c.in-Says.line c.in-Some-seat-2.index c.requires.seat (ap from c.in-Says.is) c.in-Some-seat-2.is).1

pub hear_item-requires-clause-whole : goal.hear_item-requires-clause-whole
hear_item-requires-clause-whole c = subst (λ (input : TableInput). SaysWhole (input_of input)) c.in-Says.is c.requires.whole

pub returns-in-None-seat-2-clause-hears : goal.returns-in-None-seat-2-clause-hears
returns-in-None-seat-2-clause-hears c =
    rw c.in-Says.is (unheard_item c.args.self.now c.in-Says.line c.in-Says.at (item_of c.in-Says.took) c.args.out.now.queued (seat_nowhere c.args.self.now c.in-Says.line c.requires.seat (ap from c.in-Says.is) c.in-None-seat-2.is))

pub leave_seat-requires-clause-there : goal.leave_seat-requires-clause-there
leave_seat-requires-clause-there c =
    there_within c.args.self.now.seats c.in-Some-seat-3.index (Some c.in-Leaves.line) (seat_there c.args.self.now c.in-Leaves.line c.in-Some-seat-3.index c.requires.seat (ap from c.in-Leaves.is) c.in-Some-seat-3.is).0

pub leave_seat-requires-clause-small : goal.leave_seat-requires-clause-small
leave_seat-requires-clause-small c = (seat_there c.args.self.now c.in-Leaves.line c.in-Some-seat-3.index c.requires.seat (ap from c.in-Leaves.is) c.in-Some-seat-3.is).1

pub returns-in-Some-seat-3-clause-hears : goal.returns-in-Some-seat-3-clause-hears
returns-in-Some-seat-3-clause-hears c =
    rw c.in-Leaves.is (c.leave_seat.ensures.hears c.in-Leaves.line (seat_there c.args.self.now c.in-Leaves.line c.in-Some-seat-3.index c.requires.seat (ap from c.in-Leaves.is) c.in-Some-seat-3.is).0)

pub returns-in-None-seat-3-clause-hears : goal.returns-in-None-seat-3-clause-hears
returns-in-None-seat-3-clause-hears c =
    rw c.in-Leaves.is (unheard_end c.args.self.now c.in-Leaves.line c.in-Leaves.at c.args.out.now.queued (seat_nowhere c.args.self.now c.in-Leaves.line c.requires.seat (ap from c.in-Leaves.is) c.in-None-seat-3.is))
