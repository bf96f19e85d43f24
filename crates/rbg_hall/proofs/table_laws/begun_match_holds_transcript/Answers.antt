use Rattle.rbg_hall.proofs.Holding.{run_holds_transcript}
use Rattle.rbg_hall.proofs.table_laws.begun_match_holds_transcript.Goals as goal

pub returns : goal.returns
returns c = run_holds_transcript
