-- The player is told.
use Rattle.std.proofs.Common.{refl, ap, ◌∙◌}
use Rattle.rbg_c.specs.States.{AbstractState}
use Rattle.rbg_c.specs.Calls.{told}
use Rattle.rbg_c.proofs.asking.rbg_player.Goals as goal

pub returns : goal.returns
returns c = told c.in-Some.ensures.taken c.put.ensures refl (c.from.ensures ∙ (c.player.ensures ∙ ap (λ (s : AbstractState). s.place.state.player) c.deref.ensures))
