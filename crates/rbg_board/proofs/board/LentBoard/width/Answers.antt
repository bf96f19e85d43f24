-- The width of a table is that of its graph.
use Rattle.std.proofs.Common.{subst}
use Rattle.rbg_board.specs.Graph.{HasWidth}
use Rattle.rbg_board.proofs.Tables.{has_width}
use Rattle.rbg_board.proofs.board.LentBoard.width.Goals as goal

pub returns : goal.returns
returns c =
    let fields = c.self.inside in
    record { width = subst (HasWidth fields.width) c.self.view_is (has_width fields.first.now fields.width fields.table.now c.self.invariant) }
