use Rattle.rbg_game.proofs.OneGame.{one_game_law}
use Rattle.rbg_game.proofs.laws.texts_are_one_game.Goals as goal

pub returns : goal.returns
returns c = one_game_law
