use Rattle.rbg_match.proofs.EndedLemmas.{ended_match_stays}
use Rattle.rbg_match.proofs.laws.ended_match_stays.Goals as goal

pub returns : goal.returns
returns c = ended_match_stays
