-- If a line is not written, the bytes from before the first one are still there.
use Rattle.rbg_wire.proofs.Kept.{kept_after}
use Rattle.rbg_questions.proofs.Shaping.{written_more, written_none}
use Rattle.rbg_questions.proofs.shape_writer.put_actions.Goals as goal

pub loop-index-init : goal.loop-index-init
loop-index-init c = written_none c.args.game.now.rules c.args.out.now.items

pub returns-in_err-put_action_line-clause-kept : goal.returns-in_err-put_action_line-clause-kept
returns-in_err-put_action_line-clause-kept c = kept_after _ _ _ _ c.loop-index.invariant.told c.put_action_line.ensures.kept

pub loop-index-preserved : goal.loop-index-preserved
loop-index-preserved c =
    written_more c.args.game.now.rules c.loop-index.index c.args.out.now.items c.loop-index.out.items _ c.action.result.now c.loop-index.invariant c.action.ensures c.in_ok-put_action_line.ensures.written
