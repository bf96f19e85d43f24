-- The records of matches that were served.
use Rattle.std.specs.Prelude.{ℕ, List, Option}
use Rattle.rbg_console.specs.Files.{MayBe}
use Rattle.rbg_hosting.specs.Played.{IsPlayedMatch}
use Rattle.rbg_match.specs.Matches.{MatchState}
use Rattle.rbg_record.specs.OfMatch.{record_of, plain_record_of}
use Rattle.rbg_record.specs.Records.{AbstractRecord, plain, timed, Spells}
use Rattle.rbg_record.specs.Right.{IsRightRecord}

-- The bytes are a record of a match of the game that a file describes, and the record is right.
pub record IsMatchRecord (record_for : MatchState → AbstractRecord) (known : Option (List ℕ)) (told : List ℕ) : Type 0 where
  pub description : List ℕ
  pub is_known : MayBe known description
  pub state : MatchState
  pub played : IsPlayedMatch description state
  pub spells : Spells told (record_for state)
  pub right : IsRightRecord state.game told

-- the record of a match in version 2, and in version 1
abbrev pub timed_record : MatchState → AbstractRecord
timed_record state = timed (record_of state)

abbrev pub plain_record : MatchState → AbstractRecord
plain_record state = plain (plain_record_of state)
