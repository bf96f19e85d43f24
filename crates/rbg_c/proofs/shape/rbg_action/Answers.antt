-- The action is told, or there is none.
use Rattle.std.proofs.Common.{ap, subst, ◌∙◌}
use Rattle.rbg_rules.specs.Meaning.{AbstractGame}
use Rattle.rbg_c.specs.States.{AbstractState}
use Rattle.rbg_c.specs.Shapes.{IsToldAction}
use Rattle.rbg_c.specs.Results.{range}
use Rattle.rbg_c.specs.Filling.{FillsSome, fetched}
use Rattle.rbg_c.proofs.shape.rbg_action.Goals as goal

pub returns : goal.returns
returns c =
    fetched c.in-Some.ensures.taken c.put.ensures
    (subst (λ (g : AbstractGame). FillsSome (IsToldAction g c.args.position c.fill_action-result.new.kind) range c.args.numbers.now c.fill_action-result.new.numbers c.fill_action-result.new.needed c.fill_action-result.result) (c.game.ensures.game ∙ ap (λ (s : AbstractState). s.game) c.deref.ensures) c.fill_action-result.ensures)
