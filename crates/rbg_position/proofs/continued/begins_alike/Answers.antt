-- By the same rest of the rules play goes on alike.
use Rattle.rbg_base.proofs.Common.{IfOk-weaker}
use Rattle.rbg_position.specs.Renumbering.{number_in}
use Rattle.rbg_position.proofs.Beginnings.{settles_by_rest}
use Rattle.rbg_position.proofs.continued.begins_alike.Goals as goal

pub returns-in-Ok : goal.returns-in-Ok
returns-in-Ok c =
    IfOk-weaker c.goes_on.result _ _
    (λ alike same h. settles_by_rest c.args.new.now c.args.old.now _ c.settle.new.place c.args.place.now (number_in c.args.numbers.now) c.in_ok-here.ensures.start c.in-Ok.ensures.settles c.is_accepted.ensures c.is_accepted-2.ensures c.requires.things (same h)) c.goes_on.ensures
