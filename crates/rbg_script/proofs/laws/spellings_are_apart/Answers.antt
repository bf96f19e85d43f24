-- The lemma is the law.
use Rattle.rbg_script.proofs.Apart.{spellings_apart}
use Rattle.rbg_script.proofs.laws.spellings_are_apart.Goals as goal

pub returns : goal.returns
returns c = spellings_apart
