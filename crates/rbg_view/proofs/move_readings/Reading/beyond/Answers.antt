-- What stands before the pairs says how the text is read.
use Rattle.rbg_view.proofs.Readings.{alone_none, moment_none}
use Rattle.rbg_view.proofs.move_readings.Reading.beyond.Goals as goal

pub returns-in-Nothing-clause-found : goal.returns-in-Nothing-clause-found
returns-in-Nothing-clause-found c = rw c.in-Nothing.is c.of_pairs.ensures.found

pub returns-in-Nothing-clause-none : goal.returns-in-Nothing-clause-none
returns-in-Nothing-clause-none c = rw c.in-Nothing.is (alone_none _ _ c.of_pairs.ensures.none)

pub returns-in_ok-text-in-MomentAndPlayer-clause-none : goal.returns-in_ok-text-in-MomentAndPlayer-clause-none
returns-in_ok-text-in-MomentAndPlayer-clause-none c =
    rw c.in-MomentAndPlayer.is (moment_none _ _ _ _ c.in_ok-text-in-MomentAndPlayer.ensures.found c.of_player-in-MomentAndPlayer.ensures.none)
