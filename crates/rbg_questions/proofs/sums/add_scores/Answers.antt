-- What the next matches score is added, and the sum is small.
use Rattle.std.proofs.Common.{arith}
use Rattle.rbg_questions.proofs.Totals.{next_bound, next_small, next_total}
use Rattle.rbg_questions.proofs.sums.add_scores.Goals as goal

pub overflow_add-total : goal.overflow_add-total
overflow_add-total c =
    let small = next_small c.args.player c.args.tallies.now c.loop-tally.tally-index c.loop-tally.total c.score_by-score.result c.tally-item.result c.requires c.loop-tally-test.true c.tally-item.is c.score_by-score.ensures (omega arith) c.loop-tally.invariant.1 in
    rw (c.from.ensures, c.from-in-loop-tally.ensures) (omega (arith, small))

pub loop-tally-preserved : goal.loop-tally-preserved
loop-tally-preserved c =
    rw (c.from.ensures, c.from-in-loop-tally.ensures) (
      next_total c.args.player c.args.tallies.now c.loop-tally.tally-index c.loop-tally.total c.score_by-score.result c.tally-item.result c.loop-tally-test.true c.tally-item.is c.score_by-score.ensures c.loop-tally.invariant.0,
      next_bound c.args.player c.args.tallies.now c.loop-tally.tally-index c.loop-tally.total c.score_by-score.result c.tally-item.result c.loop-tally-test.true c.tally-item.is c.score_by-score.ensures (omega arith) c.loop-tally.invariant.1,
    )
