use Rattle.rbg_record.proofs.OneRecordLemmas.{one_record}
use Rattle.rbg_record.proofs.laws.one_record.Goals as goal

pub returns : goal.returns
returns c = one_record
