-- The limits of a hall.
use Rattle.std.specs.Prelude.{ℕ}

-- a hall has at most this many tables
abbrev pub most_tables : ℕ
most_tables = 16
