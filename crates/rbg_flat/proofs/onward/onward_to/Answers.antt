use Rattle.rbg_flat.proofs.Onwards.{onward_stands}
use Rattle.rbg_flat.proofs.onward.onward_to.Goals as goal

pub returns : goal.returns
returns c = onward_stands c.args.game.now.rules c.requires.lawful.numbered c.args.position c.action.result.now c.action.ensures c.onward_by.result c.onward_by.ensures
