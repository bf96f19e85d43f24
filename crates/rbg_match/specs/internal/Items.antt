-- What an item means.
use Rattle.std.specs.Prelude.{ℕ, List, [], ◌∷◌, if◌then◌else◌}
use Rattle.rbg_wire.specs.Streams.{Item}
use Rattle.rbg_match.specs.Handling.{AbstractInput, tick, sent}
use Rattle.rbg_match.specs.Inputs.{is_seat_in}

-- The inputs that an item of a seat means in a match of that many seats: a moment, and the item if there is the seat.
abbrev pub item_inputs : (seats seat : ℕ) → Item → List AbstractInput
item_inputs seats seat item = tick ∷ (if is_seat_in seats seat then sent seat item ∷ [] else [])
