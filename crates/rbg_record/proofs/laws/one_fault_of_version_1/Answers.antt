use Rattle.rbg_record.proofs.OnePlain.{one_plain_fault}
use Rattle.rbg_record.proofs.laws.one_fault_of_version_1.Goals as goal

pub returns : goal.returns
returns c = one_plain_fault
