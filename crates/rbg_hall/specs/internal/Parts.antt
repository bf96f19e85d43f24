-- What the parts of a hall of the code stand for.
use Rattle.std.specs.Prelude.{◌≡◌, ◌+◌, ◌<◌, ℕ, List, [], All, length, map, replicate, slice_get, Some}
use Rattle.rbg_wire.specs.Streams.{IsRest, Item, Stream, incomplete}
use Rattle.rbg_wire.specs.Whole.{IsCutAlone}
use Rattle.rbg_match.specs.Config.{IsWithinLimits}
use Rattle.rbg_match.specs.Limits.{message_limit}
use Rattle.rbg_hall.specs.TableLimits.{lines_in_all}
use Rattle.rbg_hall.specs.Tables.{TableState, new_table}
use Rattle.rbg_hall.specs.Kept.{KeptState, Ledger, no_log}
use Rattle.rbg_hall.specs.declared.line.LinePhase.{LinePhase}
use Rattle.rbg_hall.specs.declared.line.LinePhase.TheVariants.{Silent, Asks, Over}
use Rattle.rbg_hall.specs.declared.table.Table.{Table}
use Rattle.rbg_hall.specs.Halls.{HallState}
use Rattle.rbg_hall.specs.Lines.{HallLine, silent, asks, over}

abbrev pub line_of : LinePhase → HallLine
line_of (Silent inbox) = silent inbox.rest
line_of (Asks index inbox) = asks (index + 1) inbox.rest
line_of Over = over

abbrev pub lines_of : List LinePhase → List HallLine
lines_of lines = map line_of lines

-- tables, and ledgers, of tables with their ledgers
abbrev pub states_of : {W : Type 0} → List (KeptState W) → List TableState
states_of tables = map (λ one. one.table) tables

abbrev pub ledgers_of : {W : Type 0} → List (KeptState W) → List (Ledger W)
ledgers_of tables = map (λ one. one.ledger) tables

-- tables and lines as a hall
abbrev pub hall_of : {W : Type 0} → List (KeptState W) → List LinePhase → HallState
hall_of tables lines = record { tables = states_of tables; lines = lines_of lines }

-- The table of this number, of so many, is at this index.
pub record IsPlaced (table tables index : ℕ) : Type 0 where
  pub number : table ≡ index + 1
  pub within : index < tables

-- The inbox has the limit of a message, and no complete item is left in it. The rest is one within the limit.
pub record IsEmptied (inbox : Stream) : Type 0 where
  pub limit : inbox.limit ≡ message_limit
  pub empty : inbox.items ≡ []
  pub short : IsRest message_limit inbox.rest

-- each of these items is one of a stream
abbrev pub AreWhole : List Item → Type 0
AreWhole items = All (IsCutAlone message_limit) items

-- The inbox of a line is emptied, and there is the table for which it asks.
abbrev pub IsReady : (tables : ℕ) → LinePhase → Type 0
IsReady tables (Silent inbox) = IsEmptied inbox
IsReady tables (Asks index inbox) = IsEmptied inbox × (index < tables)
IsReady tables Over = Unit {0}

-- There are all lines, and each of them is ready.
pub record AreReady (tables : ℕ) (lines : List LinePhase) : Type 0 where
  pub count : length lines ≡ lines_in_all
  pub each : All (IsReady tables) lines

-- a line of which nothing was heard
abbrev pub new_line : LinePhase
new_line = Silent (record { limit = message_limit; items = []; rest = incomplete [] })

abbrev pub AreNew : (count : ℕ) → List LinePhase → Type 0
AreNew count lines = lines ≡ replicate count new_line

-- the config of each of the first tables, so many, is within its limits
abbrev pub FirstHaveLimits : (count : ℕ) → List Table → Type 0
FirstHaveLimits count tables = (other : ℕ) (table : Table) → other < count → slice_get tables other ≡ Some table → IsWithinLimits table.config

-- The table at this index is the first whose config is outside its limits.
pub record IsFaulty (tables : List Table) (index : ℕ) : Type 0 where
  pub table : Table
  pub there : slice_get tables index ≡ Some table
  pub faulty : ¬ IsWithinLimits table.config
  pub first : FirstHaveLimits index tables

-- the config of each table is within its limits
abbrev pub HaveLimits : List Table → Type 0
HaveLimits tables = All (λ (table : Table). IsWithinLimits table.config) tables

-- the tables, where nobody sits, with no logs
abbrev pub new_kept : {W : Type 0} → Table → KeptState W
new_kept table = record { table = new_table table.game table.text.items table.config; ledger = no_log }

abbrev pub new_tables : {W : Type 0} → List Table → List (KeptState W)
new_tables tables = map (λ (table : Table). new_kept table) tables
