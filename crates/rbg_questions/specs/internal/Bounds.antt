-- How large the sums can become.
use Rattle.std.specs.Prelude.{ℕ, ◌*◌, ◌≤◌, List, map}
use Rattle.std.specs.List.{sum_by}
use Rattle.rbg_questions.specs.declared.tally.EndingTally.{EndingTally}
use Rattle.rbg_questions.specs.Chance.{counted_by}
use Rattle.rbg_questions.specs.Limits.{most_counted, most_played}
use Rattle.rbg_questions.specs.Summary.{moves_of}

-- the greatest score that a tally can hold, 2^64 - 1
abbrev pub highest : ℕ
highest = 18446744073709551615

-- No more matches and moves are counted than can be played.
pub record AreFew (tallies : List EndingTally) : Type 0 where
  pub matches : sum_by (λ counted. counted.matches) (map counted_by tallies) ≤ most_counted
  pub moves : moves_of (map counted_by tallies) ≤ most_played * most_counted
