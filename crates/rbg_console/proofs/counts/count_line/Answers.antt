use Rattle.std.proofs.Common.{rules, ◌≡◌, length, IfOk}
use Rattle.std.specs.Prelude.{string_bytes}
use Rattle.rbg_console.specs.Counts.{counts}
use Rattle.rbg_console.proofs.counts.count_line.Goals as goal

-- Each reader's clause names its count.
pub returns : goal.returns
returns c =
    let vertices : c.len-vertices.result ≡ length c.args.game.now.board.first = search rules in
    let written : IfOk c.format.result (λ line. string_bytes line ≡ counts c.players-players.result c.pieces-pieces.result c.variables-variables.result c.directions-directions.result c.len-vertices.result c.positions-positions.result) = search rules in
    rw (
      ← c.players-players.ensures.count,
      ← c.pieces-pieces.ensures.count,
      ← c.variables-variables.ensures.count,
      ← c.directions-directions.ensures.count,
      ← vertices,
      ← c.positions-positions.ensures.count,
    ) written
