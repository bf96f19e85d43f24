use Rattle.rbg_grammar.proofs.ExampleReadings.{negated_factor}
use Rattle.rbg_grammar.proofs.examples.a_minus_binds_to_its_factor.Goals as goal

pub returns : goal.returns
returns c = negated_factor
