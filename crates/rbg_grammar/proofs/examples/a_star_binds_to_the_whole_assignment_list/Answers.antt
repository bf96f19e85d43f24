use Rattle.rbg_grammar.proofs.ExampleReadings.{starred_assignments}
use Rattle.rbg_grammar.proofs.examples.a_star_binds_to_the_whole_assignment_list.Goals as goal

pub returns : goal.returns
returns c = starred_assignments
