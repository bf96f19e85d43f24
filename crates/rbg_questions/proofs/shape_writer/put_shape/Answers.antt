-- The layout, and then the actions.
use Rattle.rbg_questions.proofs.Shaping.{shape_told}
use Rattle.rbg_questions.proofs.shape_writer.put_shape.Goals as goal

pub returns-clause-written : goal.returns-clause-written
returns-clause-written c =
    shape_told c.args.game.now c.args.out.now.items _ _ _ c.in_ok-put_layout.ensures.written c.put_actions.ensures.written
