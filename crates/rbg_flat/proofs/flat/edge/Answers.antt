use Rattle.std.proofs.Common.{ap, ◌∙◌}
use Rattle.rbg_board.specs.Graph.{Graph, next}
use Rattle.rbg_flat.proofs.flat.edge.Goals as goal

pub returns-clause-is : goal.returns-clause-is
returns-clause-is c = c.step.ensures.next ∙ ap (λ (g : Graph). next g c.args.vertex c.args.direction) c.board.ensures.board
