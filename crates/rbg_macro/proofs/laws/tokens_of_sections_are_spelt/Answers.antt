-- The law as a lemma.
use Rattle.rbg_macro.proofs.SpeltExpansions.{text_sections_spelt}
use Rattle.rbg_macro.proofs.laws.tokens_of_sections_are_spelt.Goals as goal

pub returns : goal.returns
returns c = text_sections_spelt
