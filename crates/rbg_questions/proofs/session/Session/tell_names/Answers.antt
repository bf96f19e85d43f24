-- What is told is what the session holds.
use Rattle.std.proofs.Common.{rules}
use Rattle.rbg_questions.proofs.Answering.{tells_the_names}
use Rattle.rbg_questions.proofs.session.Session.tell_names.Goals as goal

pub returns : goal.returns
returns c = record {
  answers = rw (← c.self.view_is) (tells_the_names _ _ _ _ c.as_game.ensures.game c.in_ok-write_names.ensures.ok);
  refused = search rules;
  out = search rules;
}
