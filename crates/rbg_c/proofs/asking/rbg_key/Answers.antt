-- The key is told.
use Rattle.std.proofs.Common.{refl, ap, ◌∙◌}
use Rattle.rbg_questions.specs.Keys.{key_of}
use Rattle.rbg_c.specs.States.{AbstractState}
use Rattle.rbg_c.specs.Calls.{told}
use Rattle.rbg_c.proofs.asking.rbg_key.Goals as goal

pub returns : goal.returns
returns c = told c.in-Some.ensures.taken c.put.ensures refl (c.key.ensures ∙ ap (λ (s : AbstractState). key_of s.place) c.deref.ensures)
