use Rattle.rbg_position.proofs.RestWords.{some_rest_law}
use Rattle.rbg_position.proofs.laws.own_actions_have_a_rest.Goals as goal

pub returns : goal.returns
returns c = some_rest_law
