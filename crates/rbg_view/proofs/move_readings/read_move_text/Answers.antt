-- What stands after the letter.
use Rattle.rbg_view.proofs.Readings.{lettered}
use Rattle.rbg_view.proofs.move_readings.read_move_text.Goals as goal

pub returns-in-Some-clause-found : goal.returns-in-Some-clause-found
returns-in-Some-clause-found c = lettered _ _ _ c.in-Some.ensures.found c.pairs_of.ensures.found
