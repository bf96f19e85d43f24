-- The limits of a script.
use Rattle.std.specs.Prelude.{ℕ}

-- the maximum time for a turn, in milliseconds: one hour
abbrev pub longest_turn : ℕ
longest_turn = 3600000

-- the maximum number of refusals that may be allowed
abbrev pub most_refusals : ℕ
most_refusals = 100
