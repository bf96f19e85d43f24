use Rattle.rbg_hall.proofs.Apart.{others_are_unheard}
use Rattle.rbg_hall.proofs.laws.others_are_unheard.Goals as goal

pub returns : goal.returns
returns c = others_are_unheard
