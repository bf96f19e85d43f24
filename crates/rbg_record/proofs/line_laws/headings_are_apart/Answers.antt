-- The lemma is the law.
use Rattle.rbg_record.proofs.Apart.{headings_apart}
use Rattle.rbg_record.proofs.line_laws.headings_are_apart.Goals as goal

pub returns : goal.returns
returns c = headings_apart
