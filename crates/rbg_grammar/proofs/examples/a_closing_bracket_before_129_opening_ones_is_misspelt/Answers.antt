use Rattle.rbg_grammar.proofs.ExampleReadings.{misspelt_alone}
use Rattle.rbg_grammar.proofs.examples.a_closing_bracket_before_129_opening_ones_is_misspelt.Goals as goal

pub returns : goal.returns
returns c = misspelt_alone
