-- The three parts stand one after the other.
use Rattle.rbg_questions.proofs.Shaping.{three_parts}
use Rattle.rbg_questions.proofs.answer_writer.put_sampled.Goals as goal

pub returns : goal.returns
returns c = three_parts _ _ _ _ _ _ _ _ c.in_ok-put_head.ensures.written c.in_ok-extend_from_slice.ensures.items c.put_standing.ensures
