-- The entry of a vertex and a direction is where the direction leads.
use Rattle.std.proofs.Common.{◌<◌, length, sym, subst}
use Rattle.rbg_board.specs.Graph.{HasWidth}
use Rattle.rbg_board.proofs.Tables.{next_past, has_width, one_width}
use Rattle.rbg_board.proofs.board.LentBoard.step.Goals as goal

pub step_within-requires-clause-direction : goal.step_within-requires-clause-direction
step_within-requires-clause-direction c = λ width has.
    let fields = c.self.inside in
    let own : HasWidth fields.width c.args.self.now = subst (HasWidth fields.width) c.self.view_is (has_width fields.first.now fields.width fields.table.now c.self.invariant) in
    subst (λ w. c.args.direction < w) (one_width c.args.self.now fields.width width c.args.vertex own has c.requires) c.if-direction-self.true

pub returns-else-direction-self-clause-next : goal.returns-else-direction-self-clause-next
returns-else-direction-self-clause-next c =
    let fields = c.self.inside in
    let is_vertex : c.args.vertex < length fields.first.now = subst (λ g. c.args.vertex < length g.first) (sym c.self.view_is) c.requires in
    rw (← c.self.view_is) (sym (next_past fields.first.now fields.width fields.table.now c.args.vertex c.args.direction is_vertex c.if-direction-self.false))
