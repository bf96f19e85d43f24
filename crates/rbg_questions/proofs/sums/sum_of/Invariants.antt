-- The sum over the tallies so far.
use Rattle.std.proofs.Common.{◌≡◌, map, take, sum_by}
use Rattle.rbg_questions.specs.Chance.{counted_by}
use Rattle.rbg_questions.specs.internal.Counts.{number_in}
use Rattle.rbg_questions.proofs.sums.sum_of.Given as goal

abbrev pub invariant-loop-tally : goal.invariant-loop-tally
invariant-loop-tally l = l.sum ≡ sum_by (number_in l.counting) (map counted_by (take l.tally-index l.tallies))
