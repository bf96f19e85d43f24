use Rattle.rbg_flat.proofs.Switches.{stands_switch}
use Rattle.rbg_moves.proofs.asking.is_switch.Goals as goal

pub returns : goal.returns
returns c = rw c.switches.ensures (stands_switch c.args.game.now.rules c.requires.lawful.numbered c.args.position c.action.result.now c.action.ensures)
