-- The lemma is the law.
use Rattle.rbg_script.proofs.Marks.{inputs_apart}
use Rattle.rbg_script.proofs.laws.inputs_are_apart.Goals as goal

pub returns : goal.returns
returns c = inputs_apart
