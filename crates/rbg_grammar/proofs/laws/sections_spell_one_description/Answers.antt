use Rattle.rbg_grammar.proofs.OneDescription.{one_description}
use Rattle.rbg_grammar.proofs.laws.sections_spell_one_description.Goals as goal

pub returns : goal.returns
returns c = one_description
