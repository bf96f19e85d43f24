-- A graph with a fault is no board.
use Rattle.rbg_base.proofs.Common.{◌≡◌, ℕ, ◌<◌, List, [], Some, length, get_or, map, sym, ap, ◌∙◌, arith, length-map, get_or-map, All-contains, slice_get_within, get_or_from_slice_get}
use Rattle.std.proofs.lemmas.Slice.Zip.{AllZip-long}
use Rattle.rbg_base.proofs.CallerLemmas.{Contains-from_get}
use Rattle.rbg_board.proofs.Common.{AreDifferent, Written, directions_in}
use Rattle.rbg_board.specs.declared.error.BoardError.{BoardError}
use Rattle.rbg_grammar.specs.Tree.{SpeltName, SpeltEdge, SpeltVertex}
use Rattle.rbg_rules.specs.Meaning.{AreDifferentNames}
use Rattle.rbg_game.proofs.Common.{NamedBoard, EdgeIs, VertexIs, vertex_names, IsGraphBoard, OccursTwice, HasGraphFault, no_vertex, many_vertices, same_vertex, same_direction, unknown_vertex}
use Rattle.rbg_game.proofs.Lists.{AllZip-at, fellow}

-- different names occur once
once : (names : List (List ℕ)) → OccursTwice names → ¬ AreDifferentNames names
once names h differ = absurd (omega (arith, h.before, differ.one_number h.i h.j h.text h.first h.second))

-- a vertex by numbers has no two edges of one direction
edges_fail : (b : NamedBoard) (names : List (List ℕ)) (vertex : SpeltVertex) (w : Written) → AreDifferentNames b.directions → VertexIs b names vertex w → OccursTwice (map (λ edge. edge.direction.text) vertex.edges) → ¬ AreDifferent (directions_in w.edges)
unfolding AreDifferent
edges_fail b names vertex w differ is h differs =
    let none : SpeltName = record { text = []; at = 0 } in
    let no_edge : SpeltEdge = record { direction = none; target = none } in
    let texts : List (List ℕ) = map (λ (edge : SpeltEdge). edge.direction.text) vertex.edges in
    let count = length-map vertex.edges (λ (edge : SpeltEdge). edge.direction.text) in
    let long = AllZip-long (EdgeIs b names) vertex.edges w.edges is.edges in
    let j_in : h.j < length vertex.edges = omega (arith, count, slice_get_within texts h.j h.text h.second) in
    let i_in : h.i < length vertex.edges = omega (arith, j_in, h.before) in
    let at_i = AllZip-at (EdgeIs b names) vertex.edges w.edges h.i no_edge (0, 0) is.edges i_in in
    let at_j = AllZip-at (EdgeIs b names) vertex.edges w.edges h.j no_edge (0, 0) is.edges j_in in
    let text_i : (get_or vertex.edges h.i no_edge).direction.text ≡ h.text = sym (get_or-map (λ (edge : SpeltEdge). edge.direction.text) vertex.edges h.i no_edge [] i_in) ∙ get_or_from_slice_get texts h.i h.text [] h.first in
    let text_j : (get_or vertex.edges h.j no_edge).direction.text ≡ h.text = sym (get_or-map (λ (edge : SpeltEdge). edge.direction.text) vertex.edges h.j no_edge [] j_in) ∙ get_or_from_slice_get texts h.j h.text [] h.second in
    let same : (get_or w.edges h.i (0, 0)).0 ≡ (get_or w.edges h.j (0, 0)).0 =
    differ.one_number (get_or w.edges h.i (0, 0)).0 (get_or w.edges h.j (0, 0)).0 h.text (at_i.0 ∙ ap Some text_i) (at_j.0 ∙ ap Some text_j) in
    differs h.i h.j h.before (omega (arith, j_in, long, length-map w.edges (λ (e : ℕ × ℕ). e.0)))
    (get_or-map (λ (e : ℕ × ℕ). e.0) w.edges h.i (0, 0) 0 (omega (arith, i_in, long)) ∙ same ∙ sym (get_or-map (λ (e : ℕ × ℕ). e.0) w.edges h.j (0, 0) 0 (omega (arith, j_in, long))))

pub graph_fault_fails : (b : NamedBoard) (vertices : List SpeltVertex) (error : BoardError) → HasGraphFault vertices error → ¬ IsGraphBoard b vertices
graph_fault_fails b vertices _ (no_vertex none) is = absurd (omega (arith, none, is.makes.count.some, AllZip-long (VertexIs b (vertex_names vertices)) vertices is.written is.named))
graph_fault_fails b vertices _ (many_vertices many) is = absurd (omega (arith, many, is.makes.count.fits, AllZip-long (VertexIs b (vertex_names vertices)) vertices is.written is.named))
graph_fault_fails b vertices _ (same_vertex h) is = once (vertex_names vertices) h is.differ
graph_fault_fails b vertices _ (same_direction {vertex = vertex} stands h) is =
    let (w, among, made) = fellow (VertexIs b (vertex_names vertices)) vertices is.written vertex is.named stands in
    edges_fail b (vertex_names vertices) vertex w is.directions.differ made h (All-contains (λ w. AreDifferent (directions_in w.edges)) is.written w is.makes.directions_differ among)
graph_fault_fails b vertices _ (unknown_vertex {vertex = vertex} {edge = edge} stands used unknown) is =
    let (w, among, made) = fellow (VertexIs b (vertex_names vertices)) vertices is.written vertex is.named stands in
    let (e, among_edges, leads) = fellow (EdgeIs b (vertex_names vertices)) vertex.edges w.edges edge made.edges used in
    unknown (Contains-from_get (vertex_names vertices) e.1 edge.target.text leads.1)
