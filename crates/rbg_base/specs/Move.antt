-- How long a move may be.
use Rattle.std.specs.Prelude.{ℕ, ◌<◌, ◌≤◌}

-- the maximum number of pairs of a move
abbrev pub most_pairs : ℕ
most_pairs = 200

-- a move has 1 to 200 pairs
abbrev pub IsMoveLength : ℕ → Type 0
IsMoveLength n = (0 < n) × (n ≤ most_pairs)
