use Rattle.rbg_grammar.proofs.Depths.{one_too_deep}
use Rattle.rbg_grammar.proofs.laws.one_bracket_is_too_deep.Goals as goal

pub returns : goal.returns
returns c = one_too_deep
