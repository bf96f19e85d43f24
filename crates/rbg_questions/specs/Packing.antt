-- A place as bytes, and as text.
use Rattle.std.specs.Prelude.{ℕ, List, ◌∷◌, ◌++◌, Option, Some, None}
use Rattle.std.specs.Int.{to_be_bytes, w16, w32}
use Rattle.std.specs.List.{flat_map}
use Rattle.hex.specs.Hex.{encode_lower}
use Rattle.rbg_rules.specs.Meaning.{AbstractPlace}

-- the first byte, which names the form of the others
abbrev pub packed_form : ℕ
packed_form = 1

-- a number as two bytes, and as four, the highest byte first
abbrev pub in_two : ℕ → List ℕ
in_two number = to_be_bytes w16 number

abbrev pub in_four : ℕ → List ℕ
in_four number = to_be_bytes w32 number

-- the position of the last action: none is 0
abbrev pub position_of : Option ℕ → ℕ
position_of None = 0
position_of (Some position) = position

-- the numbers of a place but for the values: the player, the current vertex, the position of the last action and the
-- piece on each vertex
abbrev pub numbers_of : AbstractPlace → List ℕ
numbers_of place = place.state.player ∷ place.state.vertex ∷ position_of place.last ∷ place.state.pieces

-- the bytes of a place: the form, the numbers in two bytes each, and the value of each variable in four
abbrev pub packed_of : AbstractPlace → List ℕ
packed_of place = packed_form ∷ (flat_map in_two (numbers_of place) ++ flat_map in_four place.state.values)

-- the same in hexadecimal digits, two for each byte, with small letters
abbrev pub packed_text : AbstractPlace → List ℕ
packed_text place = encode_lower (packed_of place)
