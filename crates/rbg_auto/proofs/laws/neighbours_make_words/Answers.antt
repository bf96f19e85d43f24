-- The proof of `laws::neighbours_make_words`.
use Rattle.rbg_auto.proofs.ChainLemmas.{neighbour_law}
use Rattle.rbg_auto.proofs.laws.neighbours_make_words.Goals as goal

pub returns : goal.returns
returns c = neighbour_law
