-- The lemma is the law.
use Rattle.rbg_script.proofs.Lacking.{written_read}
use Rattle.rbg_script.proofs.laws.written_is_read.Goals as goal

pub returns : goal.returns
returns c = written_read
