-- The lemma is the law.
use Rattle.rbg_operations.proofs.RecordedLemmas.{good_records}
use Rattle.rbg_operations.proofs.laws.records_are_good.Goals as goal

pub returns : goal.returns
returns c = good_records c.right_records_are_good.ensures
