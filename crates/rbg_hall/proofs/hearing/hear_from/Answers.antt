use Rattle.std.proofs.lemmas.Result.{on_err_weaker, on_ok_weaker}
use Rattle.rbg_hall.proofs.Taking.{heard_first, on_error, stops_after, stops_at}
use Rattle.rbg_hall.proofs.hearing.hear_from.Goals as goal

pub returns-clause-hears : goal.returns-clause-hears
returns-clause-hears g c = on_ok_weaker c.say_each.result (heard_first c.in_ok-hear.ensures.hears) c.say_each.ensures.hears

pub returns-in_err-hear-clause-stops : goal.returns-in_err-hear-clause-stops
returns-in_err-hear-clause-stops g c = on_error _ (stops_at c.in_err-hear.ensures.fails)

pub returns-clause-stops : goal.returns-clause-stops
returns-clause-stops g c = on_err_weaker c.say_each.result (stops_after c.in_ok-hear.ensures.hears) c.say_each.ensures.stops
