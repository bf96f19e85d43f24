-- If a mean is not written, the bytes from before the first one are still there.
use Rattle.std.proofs.Common.{map}
use Rattle.rbg_wire.proofs.Kept.{broken_off}
use Rattle.rbg_questions.specs.Chance.{counted_by}
use Rattle.rbg_questions.proofs.Searched.{means_more}
use Rattle.rbg_questions.proofs.searching.put_means.Goals as goal

pub returns-in_err-put_mean_of : goal.returns-in_err-put_mean_of
returns-in_err-put_mean_of c = broken_off _ _ _ _ _ _ c.from_residual.result c.from_residual.ensures.1 c.loop-index.invariant c.put_mean_of.ensures.kept

pub loop-index-preserved : goal.loop-index-preserved
loop-index-preserved c =
    means_more c.args.out.now.items c.loop-index.out.items _ (map counted_by c.args.tallies.now) c.loop-index.index c.loop-index.invariant c.in_ok-put_mean_of.ensures.written
