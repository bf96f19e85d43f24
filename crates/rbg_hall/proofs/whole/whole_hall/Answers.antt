use Rattle.std.proofs.Common.{[], map}
use Rattle.rbg_hall.proofs.Common.{starts_of}
use Rattle.rbg_script.specs.Events.{event_of}
use Rattle.rbg_hall.proofs.Openings.{memory_passed}
use Rattle.rbg_hall.proofs.Wholes.{of_hall, new_run}
use Rattle.rbg_hall.proofs.whole.whole_hall.Goals as goal

pub returns-in_err-hear_all-clause-refused : goal.returns-in_err-hear_all-clause-refused
returns-in_err-hear_all-clause-refused c = memory_passed (starts_of c.args.tables.items) c.from_residual-in_err-hear_all.result c.from_residual-in_err-hear_all.ensures.1

pub returns-clause-allowed : goal.returns-clause-allowed
returns-clause-allowed c =
    let starts = starts_of c.args.tables.items in
    let new = c.in_ok-made.ensures.made in
    of_hall starts (map event_of c.args.events.now) c.in_ok-made.made c.hear_all.new.hall.state c.in_ok-made.out c.hear_all.new.out new (c.in_ok-hear_all.ensures starts [] (new_run starts c.in_ok-made.made c.in_ok-made.out new))
