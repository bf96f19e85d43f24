-- The limits of a hall.
use Rattle.std.specs.Prelude.{ℕ}

-- a hall has this many lines
abbrev pub lines_in_all : ℕ
lines_in_all = 128
