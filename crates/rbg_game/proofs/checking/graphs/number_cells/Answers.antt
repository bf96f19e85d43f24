use Rattle.rbg_base.proofs.Common.{◌+◌, ◌++◌, ◌∷◌, [], List, get_or, map, take, subst, sym, AllZip, All, Contains, map-append}
use Rattle.rbg_base.proofs.CallerLemmas.{AllZip-push_one, map-take_more}
use Rattle.rbg_board.specs.Vertices.{written_of}
use Rattle.rbg_grammar.proofs.Common.{SpeltVertex, edge_of, vertex_of}
use Rattle.rbg_grammar.specs.declared.description.Edge.{Edge}
use Rattle.rbg_game.specs.internal.Graphs.{IsEdge, IsCell}
use Rattle.rbg_game.proofs.GraphSteps.{all_known, cell_made}
use Rattle.rbg_game.proofs.checking.graphs.number_cells.Goals as goal

pub number_edges-requires-clause-known : goal.number_edges-requires-clause-known
number_edges-requires-clause-known c =
    subst (λ (edges : List Edge). All (λ edge. Contains c.args.directions.now edge.direction.text.now) edges) (sym c.deref.ensures.value)
    (all_known c.args.vertices.now c.args.directions.now c.loop-place.place c.index-vertices-place.result c.loop-place-test.true c.index-vertices-place.is c.requires.known)

pub loop-place-preserved : goal.loop-place-preserved
loop-place-preserved c = λ table named.
    let directions = c.args.directions.now in
    let names = c.args.names.now in
    let vertices = c.args.vertices.now in
    let place = c.loop-place.place in
    let vertex = c.index-vertices-place.result in
    let edges = c.in_ok-edges.edges in
    let made : AllZip (IsEdge directions names) (map edge_of vertex.edges.items) edges.items =
    subst (λ (es : List Edge). AllZip (IsEdge directions names) (map edge_of es) edges.items) c.deref.ensures.value c.in_ok-edges.ensures.edges in
    let cell = cell_made table directions names vertices place vertex c.args.pieces.now edges.items c.loop-place-test.true c.index-vertices-place.is c.requires.names named made in
    let all = AllZip-push_one (IsCell table directions names) (map vertex_of (take place vertices)) (written_of c.loop-place.cells.items) (vertex_of vertex) (record { name = place; piece = get_or c.args.pieces.now place 0; edges = edges.items }) (c.loop-place.invariant table named) cell in
    let more : AllZip (IsCell table directions names) (map vertex_of (take (place + 1) vertices)) (written_of c.loop-place.cells.items ++ (record { name = place; piece = get_or c.args.pieces.now place 0; edges = edges.items }) ∷ []) =
    subst (λ (vs : List SpeltVertex). AllZip (IsCell table directions names) vs (written_of c.loop-place.cells.items ++ (record { name = place; piece = get_or c.args.pieces.now place 0; edges = edges.items }) ∷ []))
    (sym (map-take_more vertex_of vertices place vertex c.loop-place-test.true c.index-vertices-place.is)) all in
    rw (c.in_ok-push.ensures.items, map-append) more
