-- The lemma is the law.
use Rattle.rbg_record.proofs.Apart.{lines_apart}
use Rattle.rbg_record.proofs.line_laws.lines_are_apart.Goals as goal

pub returns : goal.returns
returns c = lines_apart
