-- The move stands after the player's number.
use Rattle.rbg_view.proofs.Readings.{players_found, players_none}
use Rattle.rbg_view.proofs.move_readings.Reading.of_player.Goals as goal

pub returns-clause-found : goal.returns-clause-found
returns-clause-found c = players_found _ _ _ _ c.in_ok-player.ensures.found c.of_pairs.ensures.found

pub returns-clause-none : goal.returns-clause-none
returns-clause-none c = players_none _ _ _ _ c.in_ok-player.ensures.found c.of_pairs.ensures.none
