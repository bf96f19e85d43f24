use Rattle.std.proofs.Common.{◌+◌, ◌*◌}
use Rattle.rbg_flat.proofs.Passings.{either_piece}
use Rattle.rbg_flat.proofs.passing.either_standing.Goals as goal

pub returns : goal.returns
returns c = λ b small.
    either_piece c.args.piece c.args.other c.args.state.now.state.pieces (c.args.column * 64 + b) c.standing.result c.standing-2.result b (c.standing.ensures b small) (c.standing-2.ensures b small)
