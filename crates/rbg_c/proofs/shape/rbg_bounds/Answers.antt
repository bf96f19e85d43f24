-- The bounds are told.
use Rattle.std.proofs.Common.{ap, sym, ◌∙◌}
use Rattle.rbg_rules.specs.Meaning.{AbstractGame}
use Rattle.rbg_c.specs.States.{AbstractState}
use Rattle.rbg_c.proofs.Filled.{fetched_items}
use Rattle.rbg_c.proofs.shape.rbg_bounds.Goals as goal

pub returns : goal.returns
returns c =
    fetched_items _ _ _ _ _ _ _ _ _ c.in-Some.ensures.taken c.put.ensures (ap (λ (g : AbstractGame). g.bounds) (c.game.ensures.game ∙ ap (λ (s : AbstractState). s.game) c.deref.ensures)) c.fill_bounds-result.ensures
