-- The limits on the size of a game, and on the openings of a question. (All of it is own: the paper sets no limits.)
use Rattle.std.specs.Prelude.{ℕ}

abbrev pub most_players : ℕ
most_players = 8

abbrev pub most_pieces : ℕ
most_pieces = 1000

-- the players' scores are variables too
abbrev pub most_variables : ℕ
most_variables = 64

abbrev pub max_bound : ℕ
max_bound = 1000000000

abbrev pub most_directions : ℕ
most_directions = 64

abbrev pub most_positions : ℕ
most_positions = 20000

-- the maximum depth of patterns nested in each other
abbrev pub most_nested_patterns : ℕ
most_nested_patterns = 8

-- the maximum number of different openings of a question
abbrev pub most_openings : ℕ
most_openings = 100000

-- an opening with this many modifiers in a row is too deep
abbrev pub most_modifiers : ℕ
most_modifiers = 200
