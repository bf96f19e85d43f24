-- What stands of a line of a hall.
use Rattle.std.specs.Prelude.{ℕ, ◌==◌, nat_lt, Bool, true, false, List, [], ◌∷◌, ◌++◌, Option, Some, None, if◌then◌else◌}
use Rattle.rbg_wire.specs.Streams.{Item, Rest, incomplete, Cut, cut}
use Rattle.rbg_match.specs.Limits.{message_limit}
use Rattle.rbg_hall.specs.TableLimits.{lines_in_all}
use Rattle.rbg_script.specs.Events.{AbstractEvent, piece, end_of_stream, moment_alone}
use Rattle.rbg_hall.specs.Requests.{requested}

-- A line, with the part of its next message that has come.
--   silent: it has completed no item yet.
--   asks: its first item asks for this table.
--   over: it has ended, or its first item asks for no table. Nothing more is heard of it.
pub data HallLine : Type 0 where
  silent : (rest : Rest) → HallLine
  asks : (table : ℕ) (rest : Rest) → HallLine
  over : HallLine

-- a line whose first item asks for this table, or for none
abbrev pub asking : Option ℕ → Rest → HallLine
asking (Some table) rest = asks table rest
asking None rest = over

-- a line of a hall with so many tables, all of whose bytes are cut like this
abbrev pub line_cut : (tables : ℕ) → List Item → Rest → HallLine
line_cut tables [] rest = silent rest
line_cut tables (item ∷ items) rest = asking (requested tables item) rest

-- what a line sends before it ends
abbrev pub sent_by : (line : ℕ) → List AbstractEvent → List ℕ
sent_by line [] = []
sent_by line (piece other at bytes ∷ events) = (if other == line then bytes else []) ++ sent_by line events
sent_by line (end_of_stream other at ∷ events) = if other == line then [] else sent_by line events
sent_by line (moment_alone at ∷ events) = sent_by line events

-- whether a line has ended
abbrev pub has_ended : (line : ℕ) → List AbstractEvent → Bool
has_ended line [] = false
has_ended line (piece other at bytes ∷ events) = has_ended line events
has_ended line (end_of_stream other at ∷ events) = if other == line then true else has_ended line events
has_ended line (moment_alone at ∷ events) = has_ended line events

-- all that a line sent, cut into items
abbrev pub stream_of : (line : ℕ) → List AbstractEvent → Cut
stream_of line events = cut message_limit (incomplete []) (sent_by line events)

-- the table, of so many, for which a line with these items asks
abbrev pub first_request : (tables : ℕ) → List Item → Option ℕ
first_request tables [] = None
first_request tables (item ∷ items) = requested tables item

-- what a line of a hall with so many tables is after these events; nothing is heard of a line above the last
abbrev pub line_after : (tables line : ℕ) → List AbstractEvent → HallLine
line_after tables line events =
    if has_ended line events then over
    else if nat_lt line lines_in_all then line_cut tables (stream_of line events).items (stream_of line events).rest
    else over
