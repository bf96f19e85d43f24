use Rattle.rbg_game.proofs.FaultLaw.{no_game_with_fault}
use Rattle.rbg_game.proofs.laws.faults_leave_no_game.Goals as goal

pub returns : goal.returns
returns c = no_game_with_fault
