-- What the lines of a hall may have.
use Rattle.std.specs.Prelude.{◌≡◌, ◌+◌, ◌<◌, ℕ, List, [], ◌∷◌, Option, Some, None, length, slice_get, slice_index_or}
use Rattle.rbg_wire.specs.declared.message.Reason.TheVariants.{NoSeat}
use Rattle.rbg_wire.specs.Messages.{refusal_message, spelling}
use Rattle.rbg_wire.specs.Streams.{Item}
use Rattle.rbg_hall.specs.TableLimits.{lines_in_all}
use Rattle.rbg_hall.specs.Tables.{HallOf}
use Rattle.rbg_hall.specs.Tellings.{Telling, bytes_to}
use Rattle.rbg_script.specs.Events.{AbstractEvent}
use Rattle.rbg_hall.specs.Halls.{AbstractTable}
use Rattle.rbg_hall.specs.Lines.{stream_of}
use Rattle.rbg_hall.specs.Own.{own}
use Rattle.rbg_hall.specs.Requests.{requested}

-- the bytes for a line that asks for this table, or for none, where each table tells this
abbrev pub bytes_by : (told : (table : ℕ) → List Telling) → (line : ℕ) → Option ℕ → List ℕ
bytes_by told line (Some table) = bytes_to line (told table)
bytes_by told line None = spelling (refusal_message NoSeat)

-- the bytes for a line that has completed these items: those of its table, or the one refusal, or nothing
abbrev pub bytes_for : (tables : ℕ) → (told : (table : ℕ) → List Telling) → (line : ℕ) → List Item → List ℕ
bytes_for tables told line [] = []
bytes_for tables told line (item ∷ items) = bytes_by told line (requested tables item)

-- These bytes may be queued for the lines of a hall, line 0 first, after these events. Each table tells what it may tell,
-- given its own events alone. A line has what its table tells it, or one refusal, or nothing.
pub record IsAllowed (starts : List AbstractTable) (events : List AbstractEvent) (queues : List (List ℕ)) : Type 0 where
  pub told : (table : ℕ) → List Telling
  pub by_table : (index : ℕ) (start : AbstractTable) →
      slice_get starts index ≡ Some start →
      HallOf start.game start.text start.config (own (length starts) (index + 1) events) (told (index + 1))
  pub all_lines : length queues ≡ lines_in_all
  pub by_line : (line : ℕ) → line < lines_in_all →
      slice_index_or queues line [] ≡ bytes_for (length starts) told line (stream_of line events).items
