use Rattle.rbg_flat.proofs.ChainLemmas.{chain_law}
use Rattle.rbg_flat.proofs.laws.leaps_lead_to_candidates.Goals as goal

pub returns : goal.returns
returns c = chain_law
