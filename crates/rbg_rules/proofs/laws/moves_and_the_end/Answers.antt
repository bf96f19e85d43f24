-- The proof of `laws::moves_and_the_end`.
use Rattle.rbg_rules.proofs.PlaceLemmas.{move_law}
use Rattle.rbg_rules.proofs.laws.moves_and_the_end.Goals as goal

pub returns : goal.returns
returns c = move_law
