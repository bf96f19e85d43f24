use Rattle.rbg_grammar.proofs.ExampleReadings.{too_many_brackets}
use Rattle.rbg_grammar.proofs.examples.brackets_do_not_nest_129_deep.Goals as goal

pub returns : goal.returns
returns c = too_many_brackets
