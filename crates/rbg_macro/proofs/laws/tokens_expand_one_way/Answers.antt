use Rattle.rbg_macro.proofs.OneExpansion.{sections_once}
use Rattle.rbg_macro.proofs.laws.tokens_expand_one_way.Goals as goal

pub returns : goal.returns
returns c = sections_once
