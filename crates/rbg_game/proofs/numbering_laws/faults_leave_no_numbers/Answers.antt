use Rattle.rbg_game.proofs.RuleFaults.{rule_fault_fails}
use Rattle.rbg_game.proofs.numbering_laws.faults_leave_no_numbers.Goals as goal

pub returns : goal.returns
returns c = λ names rule error fault other x is. rule_fault_fails names rule error x fault other is.positions is.nesting is.switches is.is_rule
