-- Each byte that isn't passed on is one that is dropped.
use Rattle.rbg_network.proofs.PassedLaws.{others_change_nothing}
use Rattle.rbg_network.proofs.laws.others_change_nothing.Goals as goal

pub returns : goal.returns
returns c = others_change_nothing
