use Rattle.rbg_grammar.proofs.ExampleReadings.{two_stars}
use Rattle.rbg_grammar.proofs.examples.two_stars_are_no_rule.Goals as goal

pub returns : goal.returns
returns c = two_stars
