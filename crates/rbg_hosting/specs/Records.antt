-- What `hall` prints: the record of each match that has begun.
use Rattle.std.specs.Prelude.{ℕ, ◌+◌, List, [], ◌∷◌, ◌++◌, Option, Some, None, length, codes, decimal}
use Rattle.rbg_script.specs.Events.{AbstractEvent}
use Rattle.rbg_hall.specs.Halls.{AbstractTable, HallState}
use Rattle.rbg_hall.specs.Serving.{HaveAllEnded}
use Rattle.rbg_hall.specs.Wholes.{HasRun}
use Rattle.rbg_hall.specs.Tables.{TableState}
use Rattle.rbg_match.specs.Matches.{MatchState}
use Rattle.rbg_match.specs.declared.config.Config.{Config}
use Rattle.rbg_record.specs.OfMatch.{record_of}
use Rattle.rbg_record.specs.Records.{timed, Spells}
use Rattle.rbg_record.specs.Right.{IsRightRecord}
use Rattle.rbg_rules.specs.Meaning.{AbstractGame}
use Rattle.rbg_hosting.specs.Tables.{AreTablesOf}

-- the line that stands before the record of the match of this number
abbrev pub match_line : (table : ℕ) → List ℕ
match_line table = codes "match " ++ decimal table ++ codes "\n"

-- The bytes are the record of version 2 of this match of the game, and it is right.
pub record IsRecordOf (game : AbstractGame) (playing : MatchState) (bytes : List ℕ) : Type 0 where
  pub spells : Spells bytes (timed (record_of playing))
  pub right : IsRightRecord game bytes

-- What is printed of the match of a table.
--   not_begun: nothing, as long as it has not begun.
--   begun: its line, and its record.
pub data IsPrintedMatch (table : ℕ) (start : AbstractTable) : Option MatchState → (printed : List ℕ) → Type 0 where
  not_begun : IsPrintedMatch table start None []
  begun : (playing : MatchState) (bytes : List ℕ)
      → IsRecordOf start.game playing bytes
      → IsPrintedMatch table start (Some playing) (match_line table ++ bytes)

-- The matches of the first tables as they are printed, and then that of one more. Tables are numbered from 1.
pub data ArePrintedMatches : List AbstractTable → List TableState → (printed : List ℕ) → Type 0 where
  no_table : ArePrintedMatches [] [] []
  one_more : (starts : List AbstractTable) (tables : List TableState) (start : AbstractTable) (table : TableState)
      (printed one : List ℕ)
      → ArePrintedMatches starts tables printed
      → IsPrintedMatch (length tables + 1) start table.begun one
      → ArePrintedMatches (starts ++ start ∷ []) (tables ++ table ∷ []) (printed ++ one)

-- A hall with these tables heard some events, stands so, and every match has begun and ended.
pub record HasEnded (starts : List AbstractTable) (state : HallState) : Type 0 where
  pub events : List AbstractEvent
  pub queues : List (List ℕ)
  pub run : HasRun starts events state queues
  pub over : HaveAllEnded state.tables

-- The bytes are the records of the matches of a hall that has ended and has a table for each description.
pub record AreHallsRecords (config : Config) (descriptions : List (List ℕ)) (printed : List ℕ) : Type 0 where
  pub tables : List AbstractTable
  pub are : AreTablesOf config descriptions tables
  pub state : HallState
  pub ended : HasEnded tables state
  pub printed_so : ArePrintedMatches tables state.tables printed
