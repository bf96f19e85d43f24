-- The list was empty.
use Rattle.rbg_view.proofs.Readings.{told_of}
use Rattle.rbg_view.proofs.move_readings.told_readings.Goals as goal

pub returns : goal.returns
returns c = told_of _ _ _ _ c.new-readings.ensures.items c.in_ok-push_meaning.ensures
