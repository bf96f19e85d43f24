-- What a table hears of a hall's events: its own ones.
use Rattle.std.specs.Prelude.{ℕ, ◌==◌, List, [], ◌∷◌, ◌++◌, map, if◌then◌else◌}
use Rattle.rbg_wire.specs.Streams.{Item, cut}
use Rattle.rbg_match.specs.Limits.{message_limit}
use Rattle.rbg_hall.specs.Tables.{OwnEvent, clock, joins, arrives, says, leaves}
use Rattle.rbg_script.specs.Events.{AbstractEvent, piece, end_of_stream, moment_alone}
use Rattle.rbg_hall.specs.Lines.{HallLine, silent, asks, over, line_after}
use Rattle.rbg_hall.specs.Requests.{is_for, requested}

-- What a table hears of the first items of a line: if the first one asks for it, the line joins, and says the others.
abbrev pub heard_first : (tables table : ℕ) → (line at : ℕ) → List Item → List OwnEvent
heard_first tables table line at [] = []
heard_first tables table line at (item ∷ items) =
    if is_for table (requested tables item) then joins line at ∷ map (says line at) items else []

-- What a table hears when a line sends bytes, where the line stands so: nothing, unless the line asks or asked for it.
abbrev pub heard_of_piece : (tables table : ℕ) → HallLine → (line at : ℕ) → (bytes : List ℕ) → List OwnEvent
heard_of_piece tables table (silent rest) line at bytes = heard_first tables table line at (cut message_limit rest bytes).items
heard_of_piece tables table (asks other rest) line at bytes =
    if other == table then arrives line at ∷ map (says line at) (cut message_limit rest bytes).items else []
heard_of_piece tables table over line at bytes = []

-- What a table hears when a line ends, where the line stands so.
abbrev pub heard_of_end : (table : ℕ) → HallLine → (line at : ℕ) → List OwnEvent
heard_of_end table (silent rest) line at = []
heard_of_end table (asks other rest) line at = if other == table then leaves line at ∷ [] else []
heard_of_end table over line at = []

-- What a table hears of an event, where the lines stand so. The clock is heard by each table.
abbrev pub heard_of : (tables table : ℕ) → (lines : ℕ → HallLine) → AbstractEvent → List OwnEvent
heard_of tables table lines (piece line at bytes) = heard_of_piece tables table (lines line) line at bytes
heard_of tables table lines (end_of_stream line at) = heard_of_end table (lines line) line at
heard_of tables table lines (moment_alone at) = clock at ∷ []

-- What a table hears of events, where these came before.
abbrev pub own_after : (tables table : ℕ) → (before : List AbstractEvent) → List AbstractEvent → List OwnEvent
own_after tables table before [] = []
own_after tables table before (event ∷ events) =
    heard_of tables table (λ line. line_after tables line before) event
    ++ own_after tables table (before ++ event ∷ []) events

-- All that one of so many tables hears of these events, from the first on.
abbrev pub own : (tables table : ℕ) → List AbstractEvent → List OwnEvent
own tables table events = own_after tables table [] events
