use Rattle.rbg_questions.proofs.Packed.{packed_short}
use Rattle.rbg_questions.proofs.laws.packed_places_fit_a_line.Goals as goal

pub returns : goal.returns
returns c = packed_short
