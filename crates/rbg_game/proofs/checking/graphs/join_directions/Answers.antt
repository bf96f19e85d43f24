use Rattle.std.proofs.Common.{ℕ, List, map, take, subst, sym}
use Rattle.rbg_grammar.specs.Views.{edge_of}
use Rattle.rbg_game.specs.internal.Graphs.{AddsInOrder, edge_directions}
use Rattle.rbg_game.proofs.Joining.{adds_one}
use Rattle.rbg_game.proofs.GraphSteps.{edges_more}
use Rattle.rbg_game.proofs.checking.graphs.join_directions.Goals as goal

pub loop-edge-preserved : goal.loop-edge-preserved
loop-edge-preserved c =
    let edges = c.args.edges.now in
    let i = c.loop-edge.edge-index in
    let edge = c.edge-item.result in
    let P : List (List ℕ) → Type 0 = λ names. AddsInOrder names c.args.table.now c.join.new.table in
    subst P (sym (edges_more edges i edge c.loop-edge-test.true c.edge-item.is))
    (adds_one (edge_directions (map edge_of (take i edges))) c.args.table.now c.loop-edge.table c.join.new.table edge.direction.text.now c.in_ok-join.field-0 c.loop-edge.invariant c.in_ok-join.ensures.number)
