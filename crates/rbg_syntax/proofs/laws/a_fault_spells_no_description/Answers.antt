use Rattle.rbg_syntax.proofs.Faults.{fault}
use Rattle.rbg_syntax.proofs.laws.a_fault_spells_no_description.Goals as goal

pub returns : goal.returns
returns c = fault
