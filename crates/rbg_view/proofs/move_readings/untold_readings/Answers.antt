-- What the text means after each lead, in a list that was empty.
use Rattle.rbg_view.proofs.Readings.{untold_of}
use Rattle.rbg_view.proofs.move_readings.untold_readings.Goals as goal

pub returns : goal.returns
returns c = untold_of _ _ _ _ _ c.new-readings.ensures.items c.in_ok-push_meaning.ensures c.in_ok-push_meaning-2.ensures c.in_ok-push_meaning-3.ensures
