use Rattle.std.proofs.Common.{rules, ◌≡◌, true, false, is_none}
use Rattle.rbg_hall.proofs.Seated.{ok_so, freed, gone_by}
use Rattle.rbg_hall.proofs.hall_table.HallTable.leave_seat.Goals as goal

pub returns-then-is_waiting-clause-hears : goal.returns-then-is_waiting-clause-hears
returns-then-is_waiting-clause-hears c =
    let waits : is_none c.args.self.now.begun ≡ true = search rules in
    λ line sits. freed c.args.self.now c.take_seat.new.self line c.args.at c.args.index c.args.out.now.queued waits sits c.take_seat.ensures

pub returns-clause-hears : goal.returns-clause-hears
returns-clause-hears c =
    let begun : is_none c.args.self.now.begun ≡ false = search rules in
    λ line sits. ok_so c.play.result c.play.ensures.plays (λ play. gone_by c.args.self.now c.play.new.self line c.args.at c.args.index c.args.out.now.queued c.play.new.out.queued begun sits play)
