-- The edges are told.
use Rattle.std.proofs.Common.{ap, subst, ◌∙◌}
use Rattle.rbg_rules.specs.Meaning.{AbstractGame}
use Rattle.rbg_c.specs.States.{AbstractState}
use Rattle.rbg_c.specs.Shapes.{edges_of}
use Rattle.rbg_c.specs.Filling.{FillsMade}
use Rattle.rbg_c.specs.Filling.FetchesMade.{made_there}
use Rattle.rbg_c.proofs.shape.rbg_edges.Goals as goal

pub returns : goal.returns
returns c =
    made_there c.in-Some.ensures.taken c.put.ensures
    (subst (λ (g : AbstractGame). FillsMade (edges_of g) c.args.edges.now c.fill_edges-result.new.buffer c.fill_edges-result.new.needed c.fill_edges-result.result) (c.game.ensures.game ∙ ap (λ (s : AbstractState). s.game) c.deref.ensures) c.fill_edges-result.ensures)
