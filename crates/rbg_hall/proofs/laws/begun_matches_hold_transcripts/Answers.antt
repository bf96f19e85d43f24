use Rattle.rbg_hall.proofs.Beginnings.{begun_matches_hold_transcripts}
use Rattle.rbg_hall.proofs.laws.begun_matches_hold_transcripts.Goals as goal

pub returns : goal.returns
returns c = begun_matches_hold_transcripts
