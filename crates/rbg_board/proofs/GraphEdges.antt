-- That a table with the rows of all vertices leads as the written edges do.
use Rattle.rbg_base.proofs.Common.{◌≡◌, ℕ, ◌+◌, ◌*◌, ◌<◌, List, [], Option, Some, None, IsSome, IfSome, Contains, length, get_or, take, drop, refl, sym, ap, ◌∙◌, subst, arith, get_or-take, get_or-drop, get_or-map, get_or_default, length-map, slice_get-get_or, slice_get_within, get_or_from_slice_get}
use Rattle.rbg_board.proofs.Common.{next, IsGraphOf, graph_of_table, IsTable, AreDifferent, Written, names_of, pieces_of, WrittenEdge, DirectionsDiffer, HasCount, GraphRefusal, IsIndex, IsRowOf, EdgesRefusal, WiringRefusal, BoardError, NoCell, RowLength, TooManyVertices, SameDirection, UnknownVertex, SameVertex, Memory}
use Rattle.rbg_board.proofs.Tables.{next_row, vertex_of_next, all_entries}
use Rattle.rbg_board.proofs.Indexing.{value_of_some}
use Rattle.rbg_board.proofs.Wirings.{FillsRows}

-- a vertex with nothing written
blank : Written
blank = record { name = 0; piece = 0; edges = [] }

-- what holds of the value, if there is one
if_some : (o : Option ℕ) (P : ℕ → Type 0) → ((u : ℕ) → o ≡ Some u → P u) → IfSome o P
if_some None P each = tt
if_some (Some u) P each = each u refl

module _ (names : List ℕ) (index : ℕ → Option ℕ) (is_index : IsIndex names index) where
  -- a name that the index has is one of the names, and another is not
  pub contains_of_known : (n : ℕ) → IsSome (index n) → Contains names n
  contains_of_known n known =
      let place = value_of_some (index n) (sym known) in
      let there = is_index.name_of_place n place.0 place.1 in
      (place.0, there.0, get_or_default names place.0 n 0 there.0 ∙ there.1)

  pub lacks_of_unknown : (n : ℕ) → index n ≡ None → ¬ Contains names n
  lacks_of_unknown n unknown contains =
      let place = is_index.place_of_name contains.0 contains.1 in
      let same : get_or names contains.0 0 ≡ n = get_or_default names contains.0 0 n contains.1 ∙ contains.2 in
      let none = ap index same ∙ unknown in
      absurd cc

module _ (vertices : List Written) (index : ℕ → Option ℕ) (width : ℕ) (table : List (Option ℕ)) (is_index : IsIndex (names_of vertices) index) (fills : FillsRows index width vertices (length vertices) table) where
  -- the index leads to vertices
  target_below : (n u : ℕ) → index n ≡ Some u → u < length vertices
  target_below n u found = omega (arith, (is_index.name_of_place n u found).0, length-map vertices (λ w. w.name))

  row_below : (v d u : ℕ) → v < length vertices → get_or (take width (drop (v * width) table)) d None ≡ Some u → u < length vertices
  row_below v d u is_vertex entry = let edge = (fills.row v blank is_vertex).edge_of_entry d u entry in target_below edge.1.1 u edge.4.1

  pub is_wired_table : HasCount vertices → IsTable (length vertices) width table
  is_wired_table count = record {
    some = count.some;
    limit = count.fits;
    size = fills.size;
    to_vertices = all_entries (λ to. IfSome to (λ u. u < length vertices)) (length vertices) width table fills.size (λ v d is_vertex is_direction.
        let in_row = get_or-take width (drop (v * width) table) d None is_direction ∙ get_or-drop (v * width) table d None in
        if_some (get_or table (v * width + d) None) (λ u. u < length vertices) (λ u entry. row_below v d u is_vertex (in_row ∙ entry)));
  }

  first_length : length (pieces_of vertices) ≡ length vertices
  first_length = length-map vertices (λ w. w.piece)

  edge_of_next : (v d u : ℕ) → next (graph_of_table (pieces_of vertices) width table) v d ≡ Some u → WrittenEdge vertices v d u
  edge_of_next v d u leads =
      let is_first : v < length (pieces_of vertices) = vertex_of_next (pieces_of vertices) width table v d u leads in
      let is_vertex : v < length vertices = omega (arith, first_length) in
      let entry = sym (next_row (pieces_of vertices) width table v d is_first) ∙ leads in
      let edge = (fills.row v blank is_vertex).edge_of_entry d u entry in
      let named = is_index.name_of_place edge.1.1 u edge.4.1 in
      let is_target : u < length vertices = target_below edge.1.1 u edge.4.1 in
      let name : (get_or vertices u blank).name ≡ edge.1.1 = sym (get_or-map (λ w. w.name) vertices u blank 0 is_target) ∙ named.1 in
      let written : edge.1 ≡ (d, (get_or vertices u blank).name) = ap (λ k. (k, edge.1.1)) edge.4.0 ∙ ap (λ n. (d, n)) (sym name) in
      record {
        source = get_or vertices v blank;
        target = get_or vertices u blank;
        is_source = slice_get-get_or vertices v blank is_vertex;
        is_target = slice_get-get_or vertices u blank is_target;
        edge = (edge.0, edge.2, get_or_default (get_or vertices v blank).edges edge.0 (d, (get_or vertices u blank).name) edge.1 edge.2 ∙ edge.3 ∙ written);
      }

  next_of_edge : (v d u : ℕ) → WrittenEdge vertices v d u → next (graph_of_table (pieces_of vertices) width table) v d ≡ Some u
  next_of_edge v d u edge =
      let is_vertex : v < length vertices = slice_get_within vertices v edge.source edge.is_source in
      let is_target : u < length vertices = slice_get_within vertices u edge.target edge.is_target in
      let row = take width (drop (v * width) table) in
      let is_row : IsRowOf index width edge.source.edges row =
      subst (λ (w : Written). IsRowOf index width w.edges row) (get_or_from_slice_get vertices v edge.source blank edge.is_source) (fills.row v blank is_vertex) in
      let contains = edge.edge in
      let entry : get_or row d None ≡ index edge.target.name =
      subst (λ (e : ℕ × ℕ). get_or row e.0 None ≡ index e.1) contains.2 (is_row.entry_of_edge contains.0 (d, edge.target.name) contains.1) in
      let name : get_or (names_of vertices) u 0 ≡ edge.target.name = get_or-map (λ w. w.name) vertices u blank 0 is_target ∙ ap (λ (w : Written). w.name) (get_or_from_slice_get vertices u edge.target blank edge.is_target) in
      let found : index edge.target.name ≡ Some u = ap index (sym name) ∙ is_index.place_of_name u (omega (arith, length-map vertices (λ w. w.name))) in
      next_row (pieces_of vertices) width table v d (omega (arith, first_length)) ∙ entry ∙ found

  pub written_board : IsGraphOf (graph_of_table (pieces_of vertices) width table) (pieces_of vertices) (WrittenEdge vertices)
  written_board = record { first_pieces = refl; edges = λ v d u. (edge_of_next v d u, next_of_edge v d u) }

-- what is wrong with the edges of one vertex is wrong with the graph
pub refusal_of_edges : (vertices : List Written) (index : ℕ → Option ℕ) (v : ℕ) (w : Written) (error : BoardError) → IsIndex (names_of vertices) index → v < length vertices → get_or vertices v w ≡ w
    → EdgesRefusal index w.edges error → WiringRefusal vertices error
unfolding EdgesRefusal WiringRefusal
refusal_of_edges vertices index v w NoCell is_index is_vertex there refused = refused
refusal_of_edges vertices index v w (RowLength row) is_index is_vertex there refused = refused
refusal_of_edges vertices index v w TooManyVertices is_index is_vertex there refused = refused
refusal_of_edges vertices index v w SameDirection is_index is_vertex there refused = refused
refusal_of_edges vertices index v w UnknownVertex is_index is_vertex there refused =
    (v, w, is_vertex, there, (refused.0, refused.1, refused.2, refused.3, lacks_of_unknown (names_of vertices) index is_index refused.1.1 refused.4))
refusal_of_edges vertices index v w SameVertex is_index is_vertex there refused = refused
refusal_of_edges vertices index v w Memory is_index is_vertex there refused = refused

-- if nothing is wrong that is looked for earlier, the refusal names what is wrong with the edges
pub refusal_of_wiring : (vertices : List Written) (error : BoardError) → HasCount vertices → AreDifferent (names_of vertices) → DirectionsDiffer vertices
    → WiringRefusal vertices error → GraphRefusal vertices error
unfolding WiringRefusal GraphRefusal
refusal_of_wiring vertices NoCell count names directions refused = absurd refused
refusal_of_wiring vertices (RowLength row) count names directions refused = refused
refusal_of_wiring vertices TooManyVertices count names directions refused = absurd refused
refusal_of_wiring vertices SameDirection count names directions refused = absurd refused
refusal_of_wiring vertices UnknownVertex count names directions refused = (count, names, directions, refused)
refusal_of_wiring vertices SameVertex count names directions refused = absurd refused
refusal_of_wiring vertices Memory count names directions refused = count
