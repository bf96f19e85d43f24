use Rattle.rbg_macro.proofs.OneExpansion.{sections_refused_for_memory}
use Rattle.rbg_macro.proofs.laws.tokens_with_sections_have_no_fault.Goals as goal

pub returns : goal.returns
returns c = sections_refused_for_memory
