use Rattle.rbg_macro.proofs.OneExpansion.{expands_once}
use Rattle.rbg_macro.proofs.laws.lists_expand_one_way.Goals as goal

pub returns : goal.returns
returns c = expands_once
