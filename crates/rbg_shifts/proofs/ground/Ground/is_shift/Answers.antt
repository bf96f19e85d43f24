use Rattle.std.proofs.Common.{sym}
use Rattle.rbg_shifts.proofs.ShiftLemmas.{shift_by}
use Rattle.rbg_shifts.proofs.ground.Ground.is_shift.Goals as goal

pub returns : goal.returns
returns c = rw (c.is_some.ensures, ← c.self.view_is) (shift_by c.self.inside.game.now.rules c.self.invariant.2.numbered c.self.inside.directions.now c.self.invariant.1 c.args.position c.at_or.result (sym c.at_or.ensures))
