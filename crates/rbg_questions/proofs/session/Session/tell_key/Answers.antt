-- What is told is the key of the place.
use Rattle.std.proofs.Common.{rules}
use Rattle.rbg_questions.proofs.Answering.{tells_the_key}
use Rattle.rbg_questions.proofs.session.Session.tell_key.Goals as goal

pub returns : goal.returns
returns c = record {
  answers = rw (← c.self.view_is) (tells_the_key _ _ _ _ c.key_of.ensures c.in_ok-write_key.ensures.ok);
  refused = search rules;
  out = search rules;
}
