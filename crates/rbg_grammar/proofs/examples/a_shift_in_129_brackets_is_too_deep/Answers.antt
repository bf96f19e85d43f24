use Rattle.rbg_grammar.proofs.ExampleReadings.{too_deep_alone}
use Rattle.rbg_grammar.proofs.examples.a_shift_in_129_brackets_is_too_deep.Goals as goal

pub returns : goal.returns
returns c = too_deep_alone
