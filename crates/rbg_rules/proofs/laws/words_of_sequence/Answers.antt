-- The proof of `laws::words_of_sequence`.
use Rattle.rbg_rules.proofs.WordLemmas.{sequence_law}
use Rattle.rbg_rules.proofs.laws.words_of_sequence.Goals as goal

pub returns : goal.returns
returns c = sequence_law
