use Rattle.std.proofs.Common.{rules, ◌≡◌, true, false, is_none}
use Rattle.rbg_wire.proofs.Common.{item_of}
use Rattle.rbg_hall.proofs.Seated.{ok_so, early, outgoing}
use Rattle.rbg_hall.proofs.hall_table.HallTable.hear_item.Goals as goal

pub returns-then-is_waiting-clause-hears : goal.returns-then-is_waiting-clause-hears
returns-then-is_waiting-clause-hears c =
    let waits : is_none c.args.self.now.begun ≡ true = search rules in
    ok_so c.refuse.result c.refuse.ensures.told (λ told. early c.args.self.now c.args.by.line c.args.by.at c.args.index (item_of c.args.took) c.args.out.now.queued c.refuse.new.self.queued waits c.requires.sits told)

pub returns-clause-hears : goal.returns-clause-hears
returns-clause-hears c =
    let begun : is_none c.args.self.now.begun ≡ false = search rules in
    ok_so c.play.result c.play.ensures.plays (λ play. outgoing c.args.self.now c.play.new.self c.args.by.line c.args.by.at c.args.index (item_of c.args.took) c.args.out.now.queued c.play.new.out.queued begun c.requires.sits play)
