-- The lemma is the law.
use Rattle.rbg_referee.proofs.ApartLemmas.{answers_apart}
use Rattle.rbg_referee.proofs.input_laws.answers_are_apart.Goals as goal

pub returns : goal.returns
returns c = answers_apart
