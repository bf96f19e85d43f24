use Rattle.rbg_questions.proofs.Packed.{packed_back}
use Rattle.rbg_questions.proofs.laws.packed_places_differ.Goals as goal

pub returns : goal.returns
returns c = packed_back
