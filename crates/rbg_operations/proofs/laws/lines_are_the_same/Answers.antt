-- The lemma is the law.
use Rattle.rbg_operations.proofs.RecordedLemmas.{same_lines}
use Rattle.rbg_operations.proofs.laws.lines_are_the_same.Goals as goal

pub returns : goal.returns
returns c = same_lines
