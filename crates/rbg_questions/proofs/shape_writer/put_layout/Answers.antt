-- The four parts stand one after the other.
use Rattle.rbg_questions.proofs.Shaping.{layout_written}
use Rattle.rbg_questions.proofs.shape_writer.put_layout.Goals as goal

pub returns : goal.returns
returns c =
    layout_written c.args.game.now _ _ _ _ _ _ c.in_ok-put_counts.ensures.written c.in_ok-put_bounds_line.ensures.written c.in_ok-put_directions_line.ensures.written c.put_edges.ensures
