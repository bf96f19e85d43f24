-- Records: what each contains, and which bytes spell it. Each record has one spelling.
use Rattle.std.specs.Prelude.{◌≡◌, ℕ, List, [], ◌∷◌, ◌++◌, map, All, Option}
use Rattle.rbg_wire.specs.declared.outcome.Outcome.{Outcome}
use Rattle.rbg_match.specs.declared.made.Made.{Made}
use Rattle.rbg_record.specs.declared.entry.Entry.{Entry}
use Rattle.rbg_record.specs.declared.entry.Entry.TheVariants.{Move, End}
use Rattle.rbg_record.specs.declared.entry.Timed.{Timed}
use Rattle.rbg_record.specs.declared.heading.Start.{Start}
use Rattle.rbg_record.specs.declared.heading.Version.TheVariants.{One, Two}
use Rattle.rbg_record.specs.Entries.{entry_text, timed_text, EntryHasSpelling, TimedHasSpelling}
use Rattle.rbg_record.specs.Heading.{version_text, players_text, start_text, HaveNames, StartHasSpelling}
use Rattle.rbg_wire.specs.Lines.{lines_of}

-- a move without its moment: who made it, and its pairs
pub record PlainMove : Type 0 where
  pub player : ℕ
  pub pairs : List (ℕ × ℕ)

-- What a record of version 1 contains: the moves in order, and how the match ended. The outcome is None if the match is
-- still in play.
pub record PlainRecord : Type 0 where
  pub moves : List PlainMove
  pub outcome : Option Outcome

-- What a record of version 2 contains: the players' names, the time for a turn and the moment at which the match began,
-- the moves in order with their moments, the moment to which the record goes, and how the match ended.
pub record TimedRecord : Type 0 where
  pub players : List (List ℕ)
  pub start : Start
  pub moves : List Made
  pub moment : ℕ
  pub outcome : Option Outcome

-- a record of either version
pub data AbstractRecord : Type 0 where
  plain : PlainRecord → AbstractRecord
  timed : TimedRecord → AbstractRecord

-- the entry of a move, with its moment and without
abbrev pub made_entry : Made → Timed
made_entry made = record { at = made.at; entry = Move made.player made.pairs }

abbrev pub plain_entry : PlainMove → Entry
plain_entry move = Move move.player move.pairs

-- the entries of a record: its moves, and then its end
abbrev pub plain_entries : PlainRecord → List Entry
plain_entries told = map plain_entry told.moves ++ End told.outcome ∷ []

abbrev pub timed_entries : TimedRecord → List Timed
timed_entries told = map made_entry told.moves ++ record { at = told.moment; entry = End told.outcome } ∷ []

-- The texts of a record's lines. Version 1 has its version and its entries; version 2 has the players and the start
-- between them, and each entry with its moment.
abbrev pub texts_of : AbstractRecord → List (List ℕ)
texts_of (plain told) = version_text One ∷ map entry_text (plain_entries told)
texts_of (timed told) =
    version_text Two
    ∷ players_text told.players
    ∷ start_text told.start
    ∷ map timed_text (timed_entries told)

-- a record that has a spelling: names of the language, numbers below 2 ^ 64, and as many pairs as a move may have
abbrev pub HasSpelling : AbstractRecord → Type 0
HasSpelling (plain told) = All EntryHasSpelling (plain_entries told)
HasSpelling (timed told) =
    HaveNames told.players × StartHasSpelling told.start × All TimedHasSpelling (timed_entries told)

-- the bytes are the lines of this record
pub record Spells (bytes : List ℕ) (told : AbstractRecord) : Type 0 where
  pub has : HasSpelling told
  pub is : bytes ≡ lines_of (texts_of told)
