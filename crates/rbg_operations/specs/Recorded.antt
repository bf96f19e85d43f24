-- What is printed and what is recorded of the match of a description and a script.
use Rattle.std.specs.Prelude.{ℕ, List}
use Rattle.rbg_match.specs.Matches.{MatchState}
use Rattle.rbg_record.specs.OfMatch.{record_of}
use Rattle.rbg_record.specs.Records.{timed, Spells}
use Rattle.rbg_record.specs.Right.{IsRightRecord}
use Rattle.rbg_referee.specs.Matches.{IsScriptPlayed}
use Rattle.rbg_referee.specs.Printed.{IsPrinted}
use Rattle.rbg_script.specs.Scripts.{AbstractScript, SpellsScript}

-- The lines are those of the match, and the bytes are its record of version 2, which is right.
pub record IsWrittenOf (state : MatchState) (outbox : List (List ℕ)) (lines told : List ℕ) : Type 0 where
  pub printed : IsPrinted outbox lines
  pub spells : Spells told (timed (record_of state))
  pub right : IsRightRecord state.game told

-- The text is that of a script, and these are the lines and the record of its match.
pub record IsRecorded (description text lines told : List ℕ) : Type 0 where
  pub script : AbstractScript
  pub spells : SpellsScript text script
  pub state : MatchState
  pub outbox : List (List ℕ)
  pub played : IsScriptPlayed description script state outbox
  pub written : IsWrittenOf state outbox lines told
