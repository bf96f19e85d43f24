-- The lemma is the law.
use Rattle.rbg_record.proofs.Lacking.{spellings_lack}
use Rattle.rbg_record.proofs.line_laws.spellings_are_lines.Goals as goal

pub returns : goal.returns
returns c = spellings_lack
