-- The entry of a vertex and a direction is where the direction leads.
use Rattle.rbg_base.proofs.Common.{◌<◌, length, sym, subst, arith, mul-add-lt}
use Rattle.rbg_board.specs.Graph.{HasWidth}
use Rattle.rbg_board.proofs.Tables.{next_within, has_width}
use Rattle.rbg_board.proofs.board.LentBoard.step_within.Goals as goal

pub bounds-self-inside-vertex : goal.bounds-self-inside-vertex
bounds-self-inside-vertex c =
    let fields = c.self.inside in
    let is_vertex : c.args.vertex < length fields.first.now = subst (λ g. c.args.vertex < length g.first) (sym c.self.view_is) c.requires.vertex in
    let is_direction : c.args.direction < fields.width = c.requires.direction fields.width (subst (HasWidth fields.width) c.self.view_is (has_width fields.first.now fields.width fields.table.now c.self.invariant)) in
    omega (arith, mul-add-lt c.args.vertex fields.width c.args.direction (length fields.first.now) is_vertex is_direction, c.self.invariant.size)

pub returns-clause-next : goal.returns-clause-next
returns-clause-next c =
    let fields = c.self.inside in
    let is_vertex : c.args.vertex < length fields.first.now = subst (λ g. c.args.vertex < length g.first) (sym c.self.view_is) c.requires.vertex in
    let is_direction : c.args.direction < fields.width = c.requires.direction fields.width (subst (HasWidth fields.width) c.self.view_is (has_width fields.first.now fields.width fields.table.now c.self.invariant)) in
    rw (← c.self.view_is) (sym (next_within fields.first.now fields.width fields.table.now c.args.vertex c.args.direction is_vertex is_direction))
