use Rattle.rbg_grammar.proofs.ExampleReadings.{two_minuses}
use Rattle.rbg_grammar.proofs.examples.two_minuses_are_no_sum.Goals as goal

pub returns : goal.returns
returns c = two_minuses
