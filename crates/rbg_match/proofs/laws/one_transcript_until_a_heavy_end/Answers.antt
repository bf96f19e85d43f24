use Rattle.rbg_match.proofs.OneTranscriptLemmas.{one_until_heavy}
use Rattle.rbg_match.proofs.laws.one_transcript_until_a_heavy_end.Goals as goal

pub returns : goal.returns
returns c = one_until_heavy
