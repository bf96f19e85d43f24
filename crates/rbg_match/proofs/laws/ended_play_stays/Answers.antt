use Rattle.rbg_match.proofs.EndedLemmas.{ended_play_stays}
use Rattle.rbg_match.proofs.laws.ended_play_stays.Goals as goal

pub returns : goal.returns
returns c = ended_play_stays
