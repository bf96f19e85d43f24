-- The sum over the tallies so far, and how large it can be.
use Rattle.std.proofs.Common.{◌≡◌, ◌*◌, ◌≤◌, map, take}
use Rattle.rbg_questions.specs.Chance.{counted_by}
use Rattle.rbg_questions.specs.Summary.{finished_in, total_of}
use Rattle.rbg_questions.proofs.sums.add_scores.Given as goal

abbrev pub invariant-loop-tally : goal.invariant-loop-tally
invariant-loop-tally l =
    (l.total ≡ total_of l.fn.player (map counted_by (take l.tally-index l.tallies)))
    × (l.total ≤ 18446744073709551615 * finished_in (map counted_by (take l.tally-index l.tallies)))
