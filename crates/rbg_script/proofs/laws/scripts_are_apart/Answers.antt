-- The lemma is the law.
use Rattle.rbg_script.proofs.ScriptLemmas.{scripts_apart}
use Rattle.rbg_script.proofs.laws.scripts_are_apart.Goals as goal

pub returns : goal.returns
returns c = scripts_apart
