-- The proof of `laws::words_of_sum`.
use Rattle.rbg_rules.proofs.WordLemmas.{sum_law}
use Rattle.rbg_rules.proofs.laws.words_of_sum.Goals as goal

pub returns : goal.returns
returns c = sum_law
