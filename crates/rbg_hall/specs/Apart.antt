-- Tables are apart.
use Rattle.std.specs.Prelude.{◌≡◌, ℕ, ◌&&◌, ◌<◌, nat_lt, Bool, true, List, [], length, slice_index_or, if◌then◌else◌}
use Rattle.std.specs.List.{filter}
use Rattle.rbg_hall.specs.TableLimits.{lines_in_all}
use Rattle.rbg_script.specs.Events.{AbstractEvent, piece, end_of_stream, moment_alone}
use Rattle.rbg_hall.specs.Lines.{stream_of, first_request}
use Rattle.rbg_hall.specs.Requests.{is_for}

-- whether a line asks for a table in these events
abbrev pub asks_for : (tables table line : ℕ) → List AbstractEvent → Bool
asks_for tables table line events = nat_lt line lines_in_all && is_for table (first_request tables (stream_of line events).items)

-- whether an event is of the clock, or of a line that asks for this table in all these events
abbrev pub concerns : (tables table : ℕ) → (all : List AbstractEvent) → AbstractEvent → Bool
concerns tables table all (piece line at bytes) = asks_for tables table line all
concerns tables table all (end_of_stream line at) = asks_for tables table line all
concerns tables table all (moment_alone at) = true

-- The events of the clock, and those of the lines that ask for a table.
abbrev pub concerning : (tables table : ℕ) → List AbstractEvent → List AbstractEvent
concerning tables table events = filter (concerns tables table events) events

-- These queues are the first ones, but the lines that ask for a table in these events have what they have in the second.
pub record IsExchanged (tables table : ℕ) (events : List AbstractEvent) (first second mixed : List (List ℕ)) : Type 0 where
  pub all_lines : length mixed ≡ lines_in_all
  pub by_line : (line : ℕ) → line < lines_in_all →
      slice_index_or mixed line []
      ≡ (if asks_for tables table line events then slice_index_or second line [] else slice_index_or first line [])
