-- The proof of `laws::neighbours_make_lists`.
use Rattle.rbg_auto.proofs.ChainLemmas.{chain_law}
use Rattle.rbg_auto.proofs.laws.neighbours_make_lists.Goals as goal

pub returns : goal.returns
returns c = chain_law
