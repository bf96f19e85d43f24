-- What comes to a match: events, and items in place of pieces that hold one item each and nothing else.
use Rattle.std.specs.Prelude.{◌≡◌, ℕ, List, []}
use Rattle.rbg_wire.specs.Inboxes.{item_of}
use Rattle.rbg_wire.specs.Streams.{Rest, incomplete}
use Rattle.rbg_wire.specs.Whole.{IsCutAlone, whole_item}
use Rattle.rbg_match.specs.declared.arrival.Arrival.{Arrival}
use Rattle.rbg_match.specs.declared.arrival.Arrival.TheVariants.{Plain, Item}
use Rattle.rbg_match.specs.Inputs.{rest_of}
use Rattle.rbg_script.specs.Events.{AbstractEvent, piece, event_of}
use Rattle.rbg_match.specs.Limits.{message_limit}

-- The event that an arrival stands for. An item stands for the piece that holds it and nothing else.
abbrev pub arrival_of : Arrival → AbstractEvent
arrival_of (Plain event) = event_of event
arrival_of (Item seat at took) = piece seat at (whole_item message_limit (item_of took))

-- No part of a message is left in a seat's stream, as `rest_of` finds it.
abbrev pub IsBetween : List Rest → (seat : ℕ) → Type 0
IsBetween rests seat = rest_of rests seat ≡ incomplete []

-- An event may always come. An item may come if it is one of a stream, and no part of a message is left in the stream
-- of its seat.
abbrev pub MayCome : List Rest → Arrival → Type 0
MayCome rests (Plain event) = Unit {0}
MayCome rests (Item seat at took) = IsCutAlone message_limit (item_of took) × IsBetween rests seat
