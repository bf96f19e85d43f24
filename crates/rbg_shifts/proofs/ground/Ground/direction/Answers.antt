use Rattle.std.proofs.Common.{sym}
use Rattle.rbg_shifts.proofs.ShiftLemmas.{some_stands, none_stands}
use Rattle.rbg_shifts.proofs.ground.Ground.direction.Goals as goal

pub returns-clause-some : goal.returns-clause-some
returns-clause-some c = rw (← c.self.view_is) (some_stands c.self.inside.game.now.rules c.self.inside.directions.now c.self.invariant.1 c.args.position c.at_or.result (sym c.at_or.ensures))

pub returns-clause-none : goal.returns-clause-none
returns-clause-none c = rw (← c.self.view_is) (none_stands c.self.inside.game.now.rules c.self.invariant.2.numbered c.self.inside.directions.now c.self.invariant.1 c.args.position c.at_or.result (sym c.at_or.ensures))
