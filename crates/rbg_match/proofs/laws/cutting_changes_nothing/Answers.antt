use Rattle.rbg_match.proofs.CuttingLemmas.{cutting}
use Rattle.rbg_match.proofs.laws.cutting_changes_nothing.Goals as goal

pub returns : goal.returns
returns c = cutting
