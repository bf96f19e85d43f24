-- The proof of `laws::words_of_star`.
use Rattle.rbg_rules.proofs.WordLemmas.{star_law}
use Rattle.rbg_rules.proofs.laws.words_of_star.Goals as goal

pub returns : goal.returns
returns c = star_law
