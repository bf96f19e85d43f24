use Rattle.rbg_grammar.proofs.OnePlace.{one_place}
use Rattle.rbg_grammar.proofs.laws.sections_stop_fitting_at_one_place.Goals as goal

pub returns : goal.returns
returns c = one_place
