use Rattle.rbg_record.proofs.Deciding.{one_judgement}
use Rattle.rbg_record.proofs.laws.one_judgement.Goals as goal

pub returns : goal.returns
returns c = one_judgement
