-- A hall, and what an event changes in it.
use Rattle.std.specs.Prelude.{◌≡◌, ℕ, zero, suc, List, [], ◌∷◌, ◌++◌, Option, Some, None, length, map, replicate, slice_get, slice_index_or, slice_set}
use Rattle.std.specs.List.{flat_map}
use Rattle.rbg_wire.specs.declared.message.Reason.TheVariants.{NoSeat}
use Rattle.rbg_wire.specs.Streams.{Item, incomplete, cut}
use Rattle.rbg_rules.specs.Meaning.{AbstractGame}
use Rattle.rbg_match.specs.declared.config.Config.{Config}
use Rattle.rbg_match.specs.Limits.{message_limit}
use Rattle.rbg_match.specs.Matches.{MatchState}
use Rattle.rbg_hall.specs.TableLimits.{lines_in_all}
use Rattle.rbg_hall.specs.Tables.{TableState, new_table, OwnEvent, Hears}
use Rattle.rbg_hall.specs.Tellings.{Telling, refusal_to}
use Rattle.rbg_script.specs.Events.{AbstractEvent, piece, end_of_stream, moment_alone}
use Rattle.rbg_hall.specs.Lines.{HallLine, silent, asks, over, line_cut}
use Rattle.rbg_hall.specs.Own.{heard_of}
use Rattle.rbg_hall.specs.Requests.{requested}

-- what a table begins with
pub record AbstractTable : Type 0 where
  pub game : AbstractGame
  pub text : List ℕ
  pub config : Config

-- A hall: its tables, table 1 first, and its lines, line 0 first.
pub record HallState : Type 0 where
  pub tables : List TableState
  pub lines : List HallLine

-- a hall where nobody sits and no line was heard
abbrev pub new_hall : List AbstractTable → HallState
new_hall starts = record {
  tables = map (λ (start : AbstractTable). new_table start.game start.text start.config) starts;
  lines = replicate lines_in_all (silent (incomplete []));
}

-- how a line stands; there is nothing to be heard of one that isn't there
abbrev pub line_at : List HallLine → (line : ℕ) → HallLine
line_at lines line = slice_index_or lines line over

-- the match of a table, once it has begun
abbrev pub begun_of : Option TableState → Option MatchState
begun_of (Some state) = state.begun
begun_of None = None

-- the match of the table of this number, if there is one and it has begun
abbrev pub begun_at : List TableState → (table : ℕ) → Option MatchState
begun_at tables zero = None
begun_at tables (suc index) = begun_of (slice_get tables index)

-- a line after it has sent bytes
abbrev pub line_beyond : (tables : ℕ) → HallLine → (bytes : List ℕ) → HallLine
line_beyond tables (silent rest) bytes = line_cut tables (cut message_limit rest bytes).items (cut message_limit rest bytes).rest
line_beyond tables (asks table rest) bytes = asks table (cut message_limit rest bytes).rest
line_beyond tables over bytes = over

-- The lines after an event: one that sends or ends has changed, and no other.
abbrev pub lines_after : (tables : ℕ) → List HallLine → AbstractEvent → List HallLine
lines_after tables lines (piece line at bytes) = slice_set lines line (line_beyond tables (line_at lines line) bytes)
lines_after tables lines (end_of_stream line at) = slice_set lines line over
lines_after tables lines (moment_alone at) = lines

-- a line whose first item asks for no table is told that there is no seat
abbrev pub refused_for : (line : ℕ) → Option ℕ → List Telling
refused_for line (Some table) = []
refused_for line None = refusal_to line NoSeat

abbrev pub refused_first : (tables line : ℕ) → List Item → List Telling
refused_first tables line [] = []
refused_first tables line (item ∷ items) = refused_for line (requested tables item)

abbrev pub refused_in : (tables : ℕ) → HallLine → (line : ℕ) → (bytes : List ℕ) → List Telling
refused_in tables (silent rest) line bytes = refused_first tables line (cut message_limit rest bytes).items
refused_in tables (asks table rest) line bytes = []
refused_in tables over line bytes = []

-- what a line is told by no table, where the lines stand so
abbrev pub refused_by : (tables : ℕ) → (lines : ℕ → HallLine) → AbstractEvent → List Telling
refused_by tables lines (piece line at bytes) = refused_in tables (lines line) line bytes
refused_by tables lines (end_of_stream line at) = []
refused_by tables lines (moment_alone at) = []

-- A table hears these events in turn.
pub data HearsEach (old : TableState) : List OwnEvent → (new : TableState) → (told : List Telling) → Type 0 where
  none :
      HearsEach old [] old []
  more : {events : List OwnEvent} {event : OwnEvent} {middle new : TableState} {first next : List Telling} →
      HearsEach old events middle first →
      Hears middle event new next →
      HearsEach old (events ++ event ∷ []) new (first ++ next)

-- Each of the tables, from this number on, hears what is its own, and tells its lines something.
pub data EachHears (heard : (table : ℕ) → List OwnEvent) : (table : ℕ) → (old new : List TableState) →
    (told : List (List Telling)) → Type 0 where
  none : {table : ℕ} →
      EachHears heard table [] [] []
  more : {table : ℕ} {old new : TableState} {olds news : List TableState} {first : List Telling}
      {next : List (List Telling)} →
      HearsEach old (heard table) new first →
      EachHears heard (suc table) olds news next →
      EachHears heard table (old ∷ olds) (new ∷ news) (first ∷ next)

-- What an event changes in a hall, and what the lines are told. The line of the event changes, and no other one. Each
-- table hears what is its own of the event: a table that hears nothing stays as it is, and tells nobody anything.
pub record HallSteps (old : HallState) (event : AbstractEvent) (new : HallState) (told : List Telling) : Type 0 where
  pub by_tables : List (List Telling)
  pub tables : EachHears (λ table. heard_of (length old.tables) table (line_at old.lines) event) 1 old.tables new.tables by_tables
  pub lines : new.lines ≡ lines_after (length old.tables) old.lines event
  pub is_told : told ≡ refused_by (length old.tables) (line_at old.lines) event ++ flat_map (λ one. one) by_tables

-- From a hall where nobody sits these events in turn lead to a state of it, and this is told.
pub data HallRun (starts : List AbstractTable) : List AbstractEvent → HallState → (told : List Telling) → Type 0 where
  none :
      HallRun starts [] (new_hall starts) []
  more : {events : List AbstractEvent} {event : AbstractEvent} {middle new : HallState} {first next : List Telling} →
      HallRun starts events middle first →
      HallSteps middle event new next →
      HallRun starts (events ++ event ∷ []) new (first ++ next)
