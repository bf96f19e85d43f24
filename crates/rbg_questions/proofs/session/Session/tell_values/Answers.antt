-- What is told is what the session holds.
use Rattle.std.proofs.Common.{rules}
use Rattle.rbg_questions.proofs.Answering.{tells_what_variables_hold}
use Rattle.rbg_questions.proofs.session.Session.tell_values.Goals as goal

pub returns : goal.returns
returns c = record {
  answers = rw (← c.self.view_is) (tells_what_variables_hold _ _ _ _ c.values_at.ensures c.in_ok-write_values.ensures.ok);
  refused = search rules;
  out = search rules;
}
