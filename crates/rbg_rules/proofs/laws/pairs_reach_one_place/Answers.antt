-- The proof of `laws::pairs_reach_one_place`.
use Rattle.rbg_rules.proofs.PlaceLemmas.{one_place_law}
use Rattle.rbg_rules.proofs.laws.pairs_reach_one_place.Goals as goal

pub returns : goal.returns
returns c = one_place_law
