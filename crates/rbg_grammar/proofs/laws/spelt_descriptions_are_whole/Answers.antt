use Rattle.rbg_grammar.proofs.Whole.{spelt_whole}
use Rattle.rbg_grammar.proofs.laws.spelt_descriptions_are_whole.Goals as goal

pub returns : goal.returns
returns c = spelt_whole
