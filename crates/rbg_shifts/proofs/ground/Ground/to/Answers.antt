use Rattle.std.proofs.Common.{◌∙◌, sym, ap}
use Rattle.rbg_board.specs.Graph.{Graph, next}
use Rattle.rbg_shifts.proofs.ShiftLemmas.{comes_by, comes_nowhere}
use Rattle.rbg_shifts.proofs.ground.Ground.to.Goals as goal

pub returns-in-Some-clause-comes : goal.returns-in-Some-clause-comes
returns-in-Some-clause-comes c =
    rw (← c.self.view_is) (λ u. comes_by c.self.inside.game.now c.self.invariant.2.numbered c.args.vertex c.args.position c.in-Some.direction (c.self.invariant.1.shifts c.args.position c.in-Some.direction (sym c.at_or.ensures ∙ c.in-Some.is)) c.step.result (c.step.ensures.next ∙ ap (λ (g : Graph). next g c.args.vertex c.in-Some.direction) c.self.invariant.0) u)

pub returns-in-None-clause-comes : goal.returns-in-None-clause-comes
returns-in-None-clause-comes c =
    rw (← c.self.view_is) (λ u. comes_nowhere c.self.inside.game.now c.self.invariant.2.numbered c.self.inside.directions.now c.self.invariant.1 c.args.vertex c.args.position (sym c.at_or.ensures ∙ c.in-None.is) u)
