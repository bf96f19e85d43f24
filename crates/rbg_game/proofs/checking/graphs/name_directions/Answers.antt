use Rattle.std.proofs.Common.{ℕ, List, map, take, subst, sym}
use Rattle.rbg_grammar.specs.Views.{edge_of, vertex_of}
use Rattle.rbg_game.proofs.Common.{IsOrderOfFirstUse, directions_named, AddsInOrder, edge_directions}
use Rattle.rbg_game.proofs.GraphSteps.{directions_more}
use Rattle.rbg_game.proofs.checking.graphs.name_directions.Goals as goal

pub loop-vertex-preserved : goal.loop-vertex-preserved
loop-vertex-preserved c =
    let vertices = c.args.vertices.now in
    let i = c.loop-vertex.vertex-index in
    let vertex = c.vertex-item.result in
    let new = c.join_directions.new.table in
    let here : AddsInOrder (edge_directions (map edge_of vertex.edges.items)) c.loop-vertex.table new =
    subst (λ edges. AddsInOrder (edge_directions (map edge_of edges)) c.loop-vertex.table new) c.deref.ensures.value c.in_ok-join_directions.ensures.order in
    let P : List (List ℕ) → Type 0 = λ used. IsOrderOfFirstUse used new in
    subst P (sym (directions_more vertices i vertex c.loop-vertex-test.true c.vertex-item.is)) (here.in_order (directions_named (map vertex_of (take i vertices))) c.loop-vertex.invariant)
