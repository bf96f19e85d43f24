-- What is told are the bytes of the place.
use Rattle.std.proofs.Common.{rules, ◌∙◌}
use Rattle.rbg_questions.proofs.Answering.{packs_the_place}
use Rattle.rbg_questions.proofs.session.Session.tell_packed.Goals as goal

pub returns : goal.returns
returns c = record {
  answers = rw (← c.self.view_is) (packs_the_place _ _ _ _ (c.as_slice.ensures.value ∙ rw c.new-here.ensures at c.in_ok-bytes.ensures) c.in_ok-write_pack.ensures.ok);
  refused = search rules;
  out = search rules;
}
