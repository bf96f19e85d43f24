-- The number of moves is told.
use Rattle.std.proofs.Common.{refl, ap, ◌∙◌, length}
use Rattle.rbg_c.specs.States.{AbstractState}
use Rattle.rbg_c.specs.Calls.{told}
use Rattle.rbg_c.proofs.asking.rbg_moves_made.Goals as goal

pub returns : goal.returns
returns c = told c.in-Some.ensures.taken c.put.ensures refl (c.moves_made.ensures.count ∙ ap (λ (s : AbstractState). length s.before) c.deref.ensures)
