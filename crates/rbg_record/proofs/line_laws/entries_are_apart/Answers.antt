-- The lemma is the law.
use Rattle.rbg_record.proofs.Apart.{entries_apart}
use Rattle.rbg_record.proofs.line_laws.entries_are_apart.Goals as goal

pub returns : goal.returns
returns c = entries_apart
