-- Which table an item asks for. Tables are numbered from 1.
use Rattle.std.specs.Prelude.{ℕ, zero, suc, ◌==◌, Bool, false, Option, Some, None, bytes_eq, if◌then◌else◌}
use Rattle.rbg_wire.specs.Messages.{join_message, message_text}
use Rattle.rbg_wire.specs.Streams.{Item, complete, too_long}

-- whether the item is the message that asks for this table
abbrev pub is_request : (table : ℕ) → Item → Bool
is_request table (complete text) = bytes_eq text (message_text (join_message table))
is_request table too_long = false

-- the one of so many tables for which the item asks
unfoldable pub requested : (tables : ℕ) → Item → Option ℕ
requested zero item = None
requested (suc table) item = if is_request (suc table) item then Some (suc table) else requested table item

-- whether this table is asked for
abbrev pub is_for : (table : ℕ) → Option ℕ → Bool
is_for table (Some other) = other == table
is_for table None = false
