use Rattle.rbg_game.proofs.OneGame.{one_game_of_description_law}
use Rattle.rbg_game.proofs.laws.descriptions_are_one_game.Goals as goal

pub returns : goal.returns
returns c = one_game_of_description_law
