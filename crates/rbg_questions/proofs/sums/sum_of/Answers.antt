-- The next number is added, and the sum is no more than the whole.
use Rattle.std.proofs.Common.{arith, map, ap, ◌∙◌, sum_by}
use Rattle.std.proofs.lemmas.List.{take_all}
use Rattle.rbg_questions.specs.Chance.{counted_by}
use Rattle.rbg_questions.specs.internal.Counts.{number_in}
use Rattle.rbg_questions.proofs.Totals.{sum_fits, sum_is, next_part, next_sum}
use Rattle.rbg_questions.proofs.sums.sum_of.Goals as goal

pub overflow_add-sum : goal.overflow_add-sum
overflow_add-sum c =
    let part = next_part (number_in c.args.counting) c.args.tallies.now c.loop-tally.tally-index c.loop-tally.sum c.number_in-sum.result c.tally-item.result c.loop-tally-test.true c.tally-item.is c.loop-tally.invariant c.number_in-sum.ensures in
    omega (arith, part, sum_fits c.args.counting c.args.tallies.now c.requires)

pub loop-tally-preserved : goal.loop-tally-preserved
loop-tally-preserved c =
    next_sum (number_in c.args.counting) c.args.tallies.now c.loop-tally.tally-index c.loop-tally.sum c.number_in-sum.result c.tally-item.result c.loop-tally-test.true c.tally-item.is c.loop-tally.invariant c.number_in-sum.ensures

pub returns : goal.returns
returns c =
    c.loop-tally.invariant
    ∙ ap (λ ts. sum_by (number_in c.args.counting) (map counted_by ts)) (take_all c.loop-tally.tally-index c.args.tallies.now (omega arith))
    ∙ sum_is c.args.counting (map counted_by c.args.tallies.now)
