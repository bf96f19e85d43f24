-- The message means one move, or none.
use Rattle.rbg_view.proofs.Readings.{said_none, said_one}
use Rattle.rbg_view.proofs.move_readings.said_readings.Goals as goal

pub returns-in_ok-push-in-Some : goal.returns-in_ok-push-in-Some
returns-in_ok-push-in-Some c = said_one _ _ _ _ c.in-Some.reading c.new-readings.ensures.items c.in_ok-push-in-Some.ensures.items c.in-Some.ensures.found

pub returns-in-None : goal.returns-in-None
returns-in-None c = said_none _ _ _ c.new-readings.ensures.items c.in-None.ensures.none
