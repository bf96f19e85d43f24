use Rattle.rbg_position.proofs.RestWords.{rest_law}
use Rattle.rbg_position.proofs.laws.words_of_rest.Goals as goal

pub returns : goal.returns
returns c = rest_law
