use Rattle.rbg_flat.proofs.Switches.{stands_shift}
use Rattle.rbg_flat.proofs.paths.is_shift.Goals as goal

pub returns : goal.returns
returns c = rw c.shifts.ensures (stands_shift c.args.game.now.rules c.requires.lawful.numbered c.args.position c.action.result.now c.action.ensures)
