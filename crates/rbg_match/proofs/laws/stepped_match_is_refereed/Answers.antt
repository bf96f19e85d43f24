use Rattle.rbg_match.proofs.WholeMatch.{stepped_is_transcript}
use Rattle.rbg_match.proofs.laws.stepped_match_is_refereed.Goals as goal

pub returns : goal.returns
returns c = stepped_is_transcript
