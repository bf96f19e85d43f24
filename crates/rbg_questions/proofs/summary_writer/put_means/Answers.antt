-- If a line is not written, the bytes from before the first one are still there.
use Rattle.std.proofs.Common.{◌≡◌, ◌+◌, ◌-◌, arith, map}
use Rattle.rbg_wire.proofs.Kept.{broken_off}
use Rattle.rbg_questions.specs.Chance.{counted_by}
use Rattle.rbg_questions.proofs.Lines.{lines_more}
use Rattle.rbg_questions.proofs.summary_writer.put_means.Goals as goal

pub returns-in_err-put_mean_of : goal.returns-in_err-put_mean_of
returns-in_err-put_mean_of c = broken_off _ _ _ _ _ _ c.from_residual.result c.from_residual.ensures.1 c.loop-index.invariant c.put_mean_of.ensures.kept

pub loop-index-preserved : goal.loop-index-preserved
loop-index-preserved c =
    let same : c.loop-index.index + 1 - 1 ≡ c.loop-index.index = omega arith in
    lines_more _ c.loop-index.out.items _ _ c.args.game.now.players (map counted_by c.args.tallies.now) c.loop-index.index c.loop-index.invariant (rw same at c.player_name-name.ensures) c.in_ok-put_mean_of.ensures.written
