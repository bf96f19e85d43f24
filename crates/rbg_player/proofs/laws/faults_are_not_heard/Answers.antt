use Rattle.rbg_player.proofs.LawLemmas.{not_heard}
use Rattle.rbg_player.proofs.laws.faults_are_not_heard.Goals as goal

pub returns : goal.returns
returns c stage after message error outgoing fault some near = not_heard fault some near
