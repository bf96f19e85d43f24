-- The key of a place: a number that is the same for equal places, and hardly ever the same for others.
use Rattle.std.specs.Prelude.{ℕ, ◌+◌, ◌*◌, ◌%◌, List, [], ◌∷◌, Option, Some, None}
use Rattle.rbg_rules.specs.Meaning.{AbstractPlace}

-- the greatest prime below 2^64, and the number by which a key is multiplied
abbrev pub key_modulus : ℕ
key_modulus = 18446744073709551557

abbrev pub key_factor : ℕ
key_factor = 6364136223846793005

-- the key after one more number, and after more of them
abbrev pub mixed : ℕ → ℕ → ℕ
mixed key number = (key * key_factor + number + 1) % key_modulus

abbrev pub mixed_all : ℕ → List ℕ → ℕ
mixed_all key [] = key
mixed_all key (n ∷ ns) = mixed_all (mixed key n) ns

-- the number of the last action: none is 0
abbrev pub number_of_last : Option ℕ → ℕ
number_of_last None = 0
number_of_last (Some position) = position + 1

-- All that a place has is in its key: the player, the current vertex, the last action, the values and the pieces.
abbrev pub key_of : AbstractPlace → ℕ
key_of place =
    mixed_all
    (mixed_all (mixed (mixed (mixed 0 place.state.player) place.state.vertex) (number_of_last place.last)) place.state.values)
    place.state.pieces
