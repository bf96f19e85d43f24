-- The mean is that of the player's scores over the matches that were finished.
use Rattle.std.proofs.Common.{arith, map}
use Rattle.rbg_questions.specs.Chance.{counted_by}
use Rattle.rbg_questions.proofs.Totals.{finished_few}
use Rattle.rbg_questions.proofs.searching.put_mean_of.Goals as goal

pub put_spaced_mean-requires-clause-few : goal.put_spaced_mean-requires-clause-few
put_spaced_mean-requires-clause-few c =
    omega (arith, c.sum_of-finished.ensures, finished_few (map counted_by c.args.tallies.now), c.requires.matches)

pub put_spaced_mean-requires-clause-small : goal.put_spaced_mean-requires-clause-small
put_spaced_mean-requires-clause-small c = rw c.sum_of-finished.ensures c.add_scores-total.ensures.small

pub returns : goal.returns
returns c = rw (c.add_scores-total.ensures.total, c.sum_of-finished.ensures) at c.put_spaced_mean.ensures
