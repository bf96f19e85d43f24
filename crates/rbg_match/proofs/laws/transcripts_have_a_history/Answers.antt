use Rattle.rbg_match.proofs.WholeHistories.{transcript_has_history}
use Rattle.rbg_match.proofs.laws.transcripts_have_a_history.Goals as goal

pub returns : goal.returns
returns c = transcript_has_history
