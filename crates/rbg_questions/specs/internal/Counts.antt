-- What is counted of each ending, and in all.
use Rattle.std.specs.Prelude.{ℕ, List}
use Rattle.rbg_questions.specs.Chance.{Counted}
use Rattle.rbg_questions.specs.Summary.{finished_in, finished_of, moves_of, stopped_in, stopped_of}
use Rattle.rbg_questions.specs.declared.sums.Counting.{Counting}
use Rattle.rbg_questions.specs.declared.sums.Counting.TheVariants.{Moves, Finished, Stopped}

abbrev pub number_in : Counting → Counted → ℕ
number_in Moves counted = counted.moves
number_in Finished counted = finished_of counted.scores counted.matches
number_in Stopped counted = stopped_of counted.scores counted.matches

abbrev pub sum_in : Counting → List Counted → ℕ
sum_in Moves = moves_of
sum_in Finished = finished_in
sum_in Stopped = stopped_in
