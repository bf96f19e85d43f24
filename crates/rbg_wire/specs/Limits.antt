-- The limits of messages.
use Rattle.std.specs.Prelude.{ℕ}

-- the maximum number of scores of an outcome
abbrev pub most_scores : ℕ
most_scores = 8
