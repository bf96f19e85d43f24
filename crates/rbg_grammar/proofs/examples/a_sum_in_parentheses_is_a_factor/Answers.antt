use Rattle.rbg_grammar.proofs.ExampleReadings.{sum_in_parentheses}
use Rattle.rbg_grammar.proofs.examples.a_sum_in_parentheses_is_a_factor.Goals as goal

pub returns : goal.returns
returns c = sum_in_parentheses
