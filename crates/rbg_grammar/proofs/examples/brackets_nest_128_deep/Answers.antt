use Rattle.rbg_grammar.proofs.ExampleReadings.{deepest_brackets}
use Rattle.rbg_grammar.proofs.examples.brackets_nest_128_deep.Goals as goal

pub returns : goal.returns
returns c = deepest_brackets
