-- What the table of a board means for the whole graph.
use Rattle.std.proofs.Common.{subst}
use Rattle.rbg_board.specs.Graph.{IsClosed, HasOneWidth}
use Rattle.rbg_board.proofs.Tables.{closed, has_width}
use Rattle.rbg_board.proofs.board.Board.len.Goals as goal

pub returns-clause-closed : goal.returns-clause-closed
returns-clause-closed c = let fields = c.self.inside in subst IsClosed c.self.view_is (closed fields.first.items fields.width fields.table.items c.self.invariant)

pub returns-clause-width : goal.returns-clause-width
returns-clause-width c =
    let fields = c.self.inside in
    subst HasOneWidth c.self.view_is (record { width = fields.width; has_width = has_width fields.first.items fields.width fields.table.items c.self.invariant })
