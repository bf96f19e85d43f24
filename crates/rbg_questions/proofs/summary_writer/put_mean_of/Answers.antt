-- The mean is that of the player's scores over the matches that were finished.
use Rattle.std.proofs.Common.{arith, map}
use Rattle.rbg_questions.specs.Chance.{counted_by}
use Rattle.rbg_questions.proofs.Totals.{finished_few}
use Rattle.rbg_questions.proofs.summary_writer.put_mean_of.Goals as goal

pub put_mean_line-requires-clause-few : goal.put_mean_line-requires-clause-few
put_mean_line-requires-clause-few c =
    omega (arith, c.sum_of-finished.ensures, finished_few (map counted_by c.args.tallies.now), c.requires.matches)

pub put_mean_line-requires-clause-small : goal.put_mean_line-requires-clause-small
put_mean_line-requires-clause-small c = rw c.sum_of-finished.ensures c.add_scores-total.ensures.small

pub returns : goal.returns
returns c = rw (c.add_scores-total.ensures.total, c.sum_of-finished.ensures) at c.put_mean_line.ensures
