-- How the lists of a graph's names and numbers grow, vertex by vertex and edge by edge.
use Rattle.rbg_base.proofs.Common.{◌≡◌, ℕ, ◌+◌, ◌<◌, ◌≤◌, inl, inr, List, [], ◌∷◌, ◌++◌, Some, length, get_or, map, take, slice_get, Contains, All, Option, None, MatchOption, append-nil, refl, sym, ap, ◌∙◌, subst, arith, AllZip, unwrap_or, flat_map-append, slice_get_within, get_or_from_slice_get}
use Rattle.std.proofs.lemmas.List.{length-map, length-take, map-append, take-map, get_or_default}
use Rattle.rbg_board.specs.declared.error.BoardError.TheVariants as board_errors
use Rattle.rbg_grammar.proofs.Common.{SpeltName, SpeltEdge, SpeltVertex, graph, edge_of, vertex_of}
use Rattle.rbg_grammar.specs.declared.description.Edge.{Edge}
use Rattle.rbg_grammar.specs.declared.description.Vertex.{Vertex}
use Rattle.rbg_game.specs.declared.game_error.GameError.{GameError}
use Rattle.rbg_game.specs.declared.game_error.GameError.TheVariants as errors
use Rattle.rbg_game.proofs.NumberingCommon.{IsNumberOf, HasLookUpFault, not_there, no_memory}
use Rattle.rbg_base.proofs.CallerLemmas.{map-take_more, slice_get-map_at, Contains-map}
use Rattle.rbg_game.proofs.Lists.{slice_get-map_read, Contains-one, entry_of_front, Contains-flat_map, Contains-map_read, AllZip-at}
use Rattle.rbg_game.proofs.Common.{vertex_names, directions_named, IsOrderOfFirstUse, board_pieces, HasGraphFault, same_vertex, Joins, edge_directions, IsTarget, IsEdge, IsCell}

-- One more vertex, or one more edge.

pub pieces_more : (vertices : List Vertex) (i : ℕ) (vertex : Vertex) → i < length vertices → vertex ≡ get_or vertices i vertex
    → board_pieces (graph (map vertex_of (take (i + 1) vertices))) ≡ board_pieces (graph (map vertex_of (take i vertices))) ++ (vertex_of vertex).piece ∷ []
pieces_more vertices i vertex below is =
    ap (map (λ (v : SpeltVertex). v.piece)) (map-take_more vertex_of vertices i vertex below is) ∙ map-append (λ (v : SpeltVertex). v.piece) (map vertex_of (take i vertices)) (vertex_of vertex ∷ [])

pub names_more : (vertices : List Vertex) (i : ℕ) (vertex : Vertex) → i < length vertices → vertex ≡ get_or vertices i vertex
    → vertex_names (map vertex_of (take (i + 1) vertices)) ≡ vertex_names (map vertex_of (take i vertices)) ++ vertex.name.text.now ∷ []
names_more vertices i vertex below is =
    ap vertex_names (map-take_more vertex_of vertices i vertex below is) ∙ map-append (λ (v : SpeltVertex). v.name.text) (map vertex_of (take i vertices)) (vertex_of vertex ∷ [])

pub directions_more : (vertices : List Vertex) (i : ℕ) (vertex : Vertex) → i < length vertices → vertex ≡ get_or vertices i vertex
    → directions_named (map vertex_of (take (i + 1) vertices)) ≡ directions_named (map vertex_of (take i vertices)) ++ edge_directions (map edge_of vertex.edges.items)
directions_more vertices i vertex below is =
    ap directions_named (map-take_more vertex_of vertices i vertex below is)
    ∙ flat_map-append (λ (v : SpeltVertex). edge_directions v.edges) (map vertex_of (take i vertices)) (vertex_of vertex ∷ [])
    ∙ ap (λ l. directions_named (map vertex_of (take i vertices)) ++ l) (append-nil (edge_directions (map edge_of vertex.edges.items)))

pub edges_more : (edges : List Edge) (i : ℕ) (edge : Edge) → i < length edges → edge ≡ get_or edges i edge
    → edge_directions (map edge_of (take (i + 1) edges)) ≡ edge_directions (map edge_of (take i edges)) ++ edge.direction.text.now ∷ []
edges_more edges i edge below is =
    ap edge_directions (map-take_more edge_of edges i edge below is) ∙ map-append (λ (e : SpeltEdge). e.direction.text) (map edge_of (take i edges)) (edge_of edge ∷ [])

-- Names of vertices.

names_long : (vertices : List Vertex) (i : ℕ) → i ≤ length vertices → length (vertex_names (map vertex_of (take i vertices))) ≡ i
names_long vertices i fits = length-map (map vertex_of (take i vertices)) (λ (v : SpeltVertex). v.name.text) ∙ length-map (take i vertices) vertex_of ∙ (let long = length-take i vertices in omega (arith, long, fits))

-- the names so far are those of the first vertices
names_before : (vertices : List Vertex) (i n : ℕ) (text : List ℕ) → slice_get (vertex_names (map vertex_of (take i vertices))) n ≡ Some text → slice_get (vertex_names (map vertex_of vertices)) n ≡ Some text
names_before vertices i n text there =
    (entry_of_front i (vertex_names (map vertex_of vertices)) n text
    (subst (λ l. slice_get l n ≡ Some text) (ap (map (λ (v : SpeltVertex). v.name.text)) (sym (take-map vertex_of i vertices)) ∙ sym (take-map (λ (v : SpeltVertex). v.name.text) i (map vertex_of vertices))) there)).0

-- a vertex whose name has an earlier number has the name of an earlier vertex
pub name_again : (vertices : List Vertex) (i : ℕ) (vertex : Vertex) (old new : List (List ℕ)) (n : ℕ) → i < length vertices → vertex ≡ get_or vertices i vertex → old ≡ vertex_names (map vertex_of (take i vertices)) → Joins old new vertex.name.text.now n → n < i
    → HasGraphFault (map vertex_of vertices) board_errors.SameVertex
name_again vertices i vertex old new n below is before joins earlier =
    let long : length old ≡ i = ap length before ∙ names_long vertices i (omega (arith, below)) in
    elim joins.table [
      | inl known ↦
          let there : slice_get old n ≡ Some vertex.name.text.now = subst (λ t. slice_get t n ≡ Some vertex.name.text.now) known.1 joins.number in
          same_vertex (record {
            i = n;
            j = i;
            text = vertex.name.text.now;
            before = earlier;
            first = names_before vertices i n vertex.name.text.now (subst (λ t. slice_get t n ≡ Some vertex.name.text.now) before there);
            second = slice_get-map_at (λ (v : SpeltVertex). v.name.text) (map vertex_of vertices) i (vertex_of vertex) (slice_get-map_read vertex_of vertices i vertex below is);
          })
      | inr added ↦ absurd (omega (arith, added.0, long, earlier))
    ]

-- any other joins the names
pub name_new : (vertices : List Vertex) (i : ℕ) (vertex : Vertex) (old new : List (List ℕ)) (n : ℕ) → i < length vertices → vertex ≡ get_or vertices i vertex → old ≡ vertex_names (map vertex_of (take i vertices)) → Joins old new vertex.name.text.now n → ¬ (n < i)
    → new ≡ vertex_names (map vertex_of (take (i + 1) vertices))
name_new vertices i vertex old new n below is before joins later =
    let long : length old ≡ i = ap length before ∙ names_long vertices i (omega (arith, below)) in
    elim joins.table [
      | inl known ↦ absurd (later (omega (arith, known.0, long)))
      | inr added ↦ added.1 ∙ ap (λ l. l ++ vertex.name.text.now ∷ []) before ∙ sym (names_more vertices i vertex below is)
    ]

-- a name that is known is found, unless memory runs out
pub known_found : (known : List (List ℕ)) (name : SpeltName) (error : GameError) → Contains known name.text → HasLookUpFault known (name ∷ []) error → error ≡ errors.Memory
known_found known name _ there (not_there h) = absurd (h.unknown (subst (λ (n : SpeltName). Contains known n.text) (Contains-one name h.name h.stands) there))
known_found known name _ there no_memory = refl

-- Vertices.

-- the directions of a vertex's edges are known
pub all_known : (vertices : List Vertex) (directions : List (List ℕ)) (i : ℕ) (vertex : Vertex) → i < length vertices → vertex ≡ get_or vertices i vertex → IsOrderOfFirstUse (directions_named (map vertex_of vertices)) directions
    → All (λ edge. Contains directions edge.direction.text.now) vertex.edges.items
all_known vertices directions i vertex below is order = λ k d within.
    let edge : Edge = get_or vertex.edges.items k d in
    let here : Contains vertex.edges.items edge = (k, within, get_or_default vertex.edges.items k edge d within) in
    order.all edge.direction.text.now
    (Contains-flat_map (λ (v : SpeltVertex). edge_directions v.edges) (map vertex_of vertices) (vertex_of vertex) edge.direction.text.now (Contains-map_read vertex_of vertices i vertex below is)
    (Contains-map (λ (e : SpeltEdge). e.direction.text) (map edge_of vertex.edges.items) (edge_of edge) (Contains-map edge_of vertex.edges.items edge here)))

-- a vertex by numbers, from its place and the numbers of the pieces
pub cell_made : (table directions names : List (List ℕ)) (vertices : List Vertex) (place : ℕ) (vertex : Vertex) (pieces : List ℕ) (edges : List (ℕ × ℕ)) → place < length vertices → vertex ≡ get_or vertices place vertex
    → names ≡ vertex_names (map vertex_of vertices) → AllZip (IsNumberOf table) (board_pieces (graph (map vertex_of vertices))) pieces
    → AllZip (IsEdge directions names) (map edge_of vertex.edges.items) edges → IsCell table directions names (vertex_of vertex) (record { name = place; piece = get_or pieces place 0; edges = edges })
cell_made table directions names vertices place vertex pieces edges below is are named made =
    let here : slice_get (map vertex_of vertices) place ≡ Some (vertex_of vertex) = slice_get-map_read vertex_of vertices place vertex below is in
    let whole : List SpeltName = board_pieces (graph (map vertex_of vertices)) in
    let spelt : slice_get whole place ≡ Some (vertex_of vertex).piece = slice_get-map_at (λ (v : SpeltVertex). v.piece) (map vertex_of vertices) place (vertex_of vertex) here in
    let within : place < length whole = slice_get_within whole place (vertex_of vertex).piece spelt in
    let at : IsNumberOf table (get_or whole place (vertex_of vertex).piece) (get_or pieces place 0) = AllZip-at (IsNumberOf table) whole pieces place (vertex_of vertex).piece 0 named within in
    record {
      name = subst (λ l. slice_get l place ≡ Some vertex.name.text.now) (sym are) (slice_get-map_at (λ (v : SpeltVertex). v.name.text) (map vertex_of vertices) place (vertex_of vertex) here);
      piece = at ∙ ap (λ (n : SpeltName). Some n.text) (get_or_from_slice_get whole place (vertex_of vertex).piece (vertex_of vertex).piece spelt);
      edges = made;
    }

-- what is found of a target, or else the number of vertices
pub target_of : (names : List (List ℕ)) (target : SpeltName) (found : Option ℕ) (count : ℕ) → MatchOption found (¬ Contains names target.text) (λ n. slice_get names n ≡ Some target.text) → count ≡ length names → IsTarget names target (unwrap_or found count)
target_of names target None count none is = record { cases = inr (none, is) }
target_of names target (Some n) count at is = record { cases = inl at }
