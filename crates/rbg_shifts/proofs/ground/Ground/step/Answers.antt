use Rattle.std.proofs.Common.{◌∙◌, ap}
use Rattle.rbg_board.specs.Graph.{Graph, next}
use Rattle.rbg_shifts.proofs.ShiftLemmas.{comes_by}
use Rattle.rbg_shifts.proofs.ground.Ground.step.Goals as goal

pub returns-clause-comes : goal.returns-clause-comes
returns-clause-comes c =
    rw (← c.self.view_is) (λ p u stands. comes_by c.self.inside.game.now c.self.invariant.2.numbered c.args.vertex p c.args.direction stands c.step.result (c.step.ensures.next ∙ ap (λ (g : Graph). next g c.args.vertex c.args.direction) c.self.invariant.0) u)
