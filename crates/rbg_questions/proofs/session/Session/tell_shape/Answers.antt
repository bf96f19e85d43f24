-- What is told is the shape of the session's game.
use Rattle.std.proofs.Common.{rules}
use Rattle.rbg_questions.proofs.Answering.{tells_the_shape}
use Rattle.rbg_questions.proofs.session.Session.tell_shape.Goals as goal

pub returns : goal.returns
returns c = record {
  answers = rw (← c.self.view_is) (tells_the_shape _ _ _ _ c.as_game.ensures.game c.in_ok-write_shape.ensures.written);
  refused = search rules;
  out = search rules;
}
