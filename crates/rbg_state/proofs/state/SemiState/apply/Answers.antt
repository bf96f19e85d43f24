use Rattle.std.proofs.Common.{rules}
use Rattle.rbg_state.proofs.Applying.{answered}
use Rattle.rbg_state.proofs.state.SemiState.apply.Goals as goal

pub returns : goal.returns
returns c =
    let told = answered c.args.game.now c.board.ensures.lawful c.args.position c.action.result.now c.action.ensures c.requires.no_pattern c.args.self.now c.act.new.self c.requires.room c.act.result c.requires.fits c.act.ensures in
    search rules
