-- Graphs by the numbers of their names: the board, and what is wrong with it.
use Rattle.rbg_base.proofs.Common.{◌≡◌, ◌≢◌, ℕ, suc, ◌<◌, ◌≤◌, inl, inr, List, [], ◌∷◌, Some, length, get_or, map, slice_get, Contains, All, refl, sym, ap, ◌∙◌, subst, arith, Any, AllZip, length-map, get_or-map, get_or_default, All-nil, All-cons, All-contains, slice_get_within, slice_get-get_or}
use Rattle.std.proofs.lemmas.Slice.Zip.{AllZip-long}
use Rattle.rbg_board.proofs.Common.{HasTwice, width_of, Graph, HasWidth, Written, names_of, directions_in, directions_of, IsWritten, MakesGraph, GraphRefusal, TargetsKnown}
use Rattle.rbg_board.specs.declared.error.BoardError.{BoardError}
use Rattle.rbg_board.specs.declared.error.BoardError.TheVariants as board_errors
use Rattle.rbg_grammar.specs.Tree.{SpeltName, SpeltEdge, SpeltVertex, graph}
use Rattle.rbg_rules.specs.Meaning.{most_directions, AreDifferentNames, AreLawfulNames}
use Rattle.rbg_game.specs.NameNumbers.{IsNumberOf}
use Rattle.rbg_game.proofs.Common.{NamedBoard, EdgeIs, VertexIs, vertex_names, directions_named, IsOrderOfFirstUse, OccursTwice, HasGraphFault, no_vertex, many_vertices, same_vertex, same_direction, unknown_vertex, HasVertices, MakesBoard, edge_directions, IsTarget, IsEdge, IsCell}
use Rattle.rbg_game.proofs.Lists.{AllZip-at}

-- Lists that go together.

-- two that go together, if the second has a property of its own
AllZip-and : {A B : Type 0} (R S : A → B → Type 0) (Q : B → Type 0) → ((x : A) (y : B) → R x y → Q y → S x y) → (xs : List A) (ys : List B) → AllZip R xs ys → All Q ys → AllZip S xs ys
AllZip-and R S Q both [] [] all each = tt
AllZip-and R S Q both [] (y ∷ ys) all each = absurd all
AllZip-and R S Q both (x ∷ xs) [] all each = absurd all
AllZip-and R S Q both (x ∷ xs) (y ∷ ys) all each = (both x y all.0 (each 0 y (omega arith)), AllZip-and R S Q both xs ys all.1 (λ k d within. each (suc k) d (omega (arith, within))))

-- what holds of all that go with something
All-second : {A B : Type 0} (R : A → B → Type 0) (Q : B → Type 0) → ((x : A) (y : B) → R x y → Q y) → (xs : List A) (ys : List B) → AllZip R xs ys → All Q ys
All-second R Q holds [] [] all = All-nil Q
All-second R Q holds [] (y ∷ ys) all = absurd all
All-second R Q holds (x ∷ xs) [] all = absurd all
All-second R Q holds (x ∷ xs) (y ∷ ys) all = All-cons Q y ys (holds x y all.0) (All-second R Q holds xs ys all.1)

All-map : {A B : Type 0} (f : A → B) (Q : B → Type 0) (xs : List A) → All (λ x. Q (f x)) xs → All Q (map f xs)
All-map f Q [] all = All-nil Q
All-map f Q (x ∷ xs) all = All-cons Q (f x) (map f xs) (all 0 x (omega arith)) (All-map f Q xs (λ k d within. all (suc k) d (omega (arith, within))))

AllZip-both_maps : {A B C D : Type 0} (f : A → C) (g : B → D) (R : A → B → Type 0) (S : C → D → Type 0) → ((x : A) (y : B) → R x y → S (f x) (g y)) → (xs : List A) (ys : List B) → AllZip R xs ys → AllZip S (map f xs) (map g ys)
AllZip-both_maps f g R S holds [] [] all = tt
AllZip-both_maps f g R S holds [] (y ∷ ys) all = absurd all
AllZip-both_maps f g R S holds (x ∷ xs) [] all = absurd all
AllZip-both_maps f g R S holds (x ∷ xs) (y ∷ ys) all = (holds x y all.0, AllZip-both_maps f g R S holds xs ys all.1)

-- if one of the second list has a property, it goes with one of the first
partner : {A B : Type 0} (R : A → B → Type 0) (Q : B → Type 0) (xs : List A) (ys : List B) → AllZip R xs ys → Any Q ys → (x : A) × (y : B) × Contains xs x × R x y × Q y
partner R Q [] ys all (k, y, within, at, holds) = absurd (let long = AllZip-long R [] ys all in omega (arith, long, within))
partner {A} R Q (x ∷ xs) ys all (k, y, within, at, holds) =
    let inside : k < length (x ∷ xs) = omega (arith, AllZip-long R (x ∷ xs) ys all, within) in
    (get_or (x ∷ xs) k x, y, (k, inside, get_or_default (x ∷ xs) k (get_or (x ∷ xs) k x) x inside), subst (R (get_or (x ∷ xs) k x)) at (AllZip-at R (x ∷ xs) ys k x y all inside), holds)

-- the texts by their numbers in a list
abbrev AreNumbered : List (List ℕ) → List (List ℕ) → List ℕ → Type 0
AreNumbered known texts numbers = AllZip (λ text n. slice_get known n ≡ Some text) texts numbers

-- if a number occurs twice, so does a text
twice_named : (known texts : List (List ℕ)) (numbers : List ℕ) → AreNumbered known texts numbers → HasTwice numbers → OccursTwice texts
twice_named known texts numbers named t =
    let long = AllZip-long (λ text n. slice_get known n ≡ Some text) texts numbers named in
    let later : t.later < length texts = omega (arith, long, t.within) in
    let earlier : t.earlier < length texts = omega (arith, later, t.apart) in
    let at_i : slice_get known (get_or numbers t.earlier 0) ≡ Some (get_or texts t.earlier []) = AllZip-at (λ text n. slice_get known n ≡ Some text) texts numbers t.earlier [] 0 named earlier in
    let at_j : slice_get known (get_or numbers t.later 0) ≡ Some (get_or texts t.later []) = AllZip-at (λ text n. slice_get known n ≡ Some text) texts numbers t.later [] 0 named later in
    record {
      i = t.earlier;
      j = t.later;
      text = get_or texts t.earlier [];
      before = t.apart;
      first = slice_get-get_or texts t.earlier [] earlier;
      second = slice_get-get_or texts t.later [] later ∙ sym at_j ∙ ap (slice_get known) (sym t.same) ∙ at_i;
    }

-- The board.

module _ (pieces directions : List (List ℕ)) (vertices : List SpeltVertex) (written : List Written) (differ : AreDifferentNames (vertex_names vertices)) (cells : AllZip (IsCell pieces directions (vertex_names vertices)) vertices written) where
  -- the names of the cells are numbers of vertices
  names_below : All (λ n. n < length (vertex_names vertices)) (names_of written)
  names_below =
      All-map (λ (w : Written). w.name) (λ n. n < length (vertex_names vertices)) written
      (All-second (IsCell pieces directions (vertex_names vertices)) (λ w. w.name < length (vertex_names vertices)) (λ vertex w is. slice_get_within (vertex_names vertices) w.name vertex.name.text is.name) vertices written cells)

  known_target : (target : SpeltName) (n : ℕ) → IsTarget (vertex_names vertices) target n → Contains (names_of written) n → IsNumberOf (vertex_names vertices) target n
  known_target target n is known = elim is.cases [
    | inl number ↦ number
    | inr none ↦ absurd (let below : n < length (vertex_names vertices) = All-contains (λ k. k < length (vertex_names vertices)) (names_of written) n names_below known in omega (arith, below, none.1))
  ]

  are_vertices : (board : Graph) → TargetsKnown written → AllZip (VertexIs (record { directions = directions; pieces = pieces; board = board }) (vertex_names vertices)) vertices written
  are_vertices board known =
      let b : NamedBoard = record { directions = directions; pieces = pieces; board = board } in
      AllZip-and (IsCell pieces directions (vertex_names vertices)) (VertexIs b (vertex_names vertices)) (λ w. All (λ edge. Contains (names_of written) edge.1) w.edges)
      (λ vertex w is targets. record {
        name = is.name;
        piece = is.piece;
        edges =
            AllZip-and (IsEdge directions (vertex_names vertices)) (EdgeIs b (vertex_names vertices)) (λ e. Contains (names_of written) e.1)
            (λ edge e made stands. (made.direction, known_target edge.target e.1 made.target stands)) vertex.edges w.edges is.edges targets;
      }) vertices written cells known

  pub graph_made : (board : Graph) → IsOrderOfFirstUse (directions_named vertices) directions → AreLawfulNames directions → length directions ≤ most_directions → HasVertices board → MakesGraph written → IsWritten written board → HasWidth (width_of (directions_of written)) board
      → MakesBoard pieces (graph vertices) directions board
  graph_made board order lawful few has makes is wide =
      record {
        is_board = record { differ = differ; written = written; named = are_vertices board makes.targets_known; directions = order; makes = makes; board = is; width = wide };
        names = lawful;
        few = few;
        vertices = has;
        first_pieces =
            subst (All (λ x. x < length pieces)) (sym is.first_pieces)
            (All-map (λ (w : Written). w.piece) (λ n. n < length pieces) written
            (All-second (IsCell pieces directions (vertex_names vertices)) (λ w. w.piece < length pieces) (λ vertex w made. slice_get_within pieces w.piece vertex.piece.text made.piece) vertices written cells));
      }

  -- Faults.

  -- each vertex is numbered, so the names of the cells have each number of a vertex
  each_named : (n : ℕ) (text : List ℕ) → slice_get (vertex_names vertices) n ≡ Some text → Contains (names_of written) n
  each_named n text there =
      let none : SpeltName = record { text = []; at = 0 } in
      let no_vertex : SpeltVertex = record { name = none; piece = none; edges = [] } in
      let no_cell : Written = record { name = 0; piece = 0; edges = [] } in
      let within : n < length vertices = omega (arith, slice_get_within (vertex_names vertices) n text there, length-map vertices (λ (vertex : SpeltVertex). vertex.name.text)) in
      let made = AllZip-at (IsCell pieces directions (vertex_names vertices)) vertices written n no_vertex no_cell cells within in
      let cell : Written = get_or written n no_cell in
      let spelt : slice_get (vertex_names vertices) n ≡ Some (get_or vertices n no_vertex).name.text =
      slice_get-get_or (vertex_names vertices) n [] (slice_get_within (vertex_names vertices) n text there) ∙ ap Some (get_or-map (λ (vertex : SpeltVertex). vertex.name.text) vertices n no_vertex [] within) in
      let same : cell.name ≡ n = differ.one_number cell.name n (get_or vertices n no_vertex).name.text made.name spelt in
      let long : length written ≡ length vertices = AllZip-long (IsCell pieces directions (vertex_names vertices)) vertices written cells in
      (n, omega (arith, within, long, length-map written (λ (w : Written). w.name)), get_or-map (λ (w : Written). w.name) written n no_cell n (omega (arith, within, long)) ∙ same)

  unknown_target : (target : SpeltName) (n : ℕ) → IsTarget (vertex_names vertices) target n → ¬ Contains (names_of written) n → ¬ Contains (vertex_names vertices) target.text
  unknown_target target n is unknown = elim is.cases [
    | inl number ↦ λ known. unknown (each_named n target.text number)
    | inr none ↦ none.0
  ]

  pub graph_fault : (error : BoardError) → GraphRefusal written error → error ≢ board_errors.Memory → HasGraphFault vertices error
  unfolding GraphRefusal
  graph_fault board_errors.NoCell refused is_fault = no_vertex (omega (arith, refused, AllZip-long (IsCell pieces directions (vertex_names vertices)) vertices written cells))
  graph_fault (board_errors.RowLength row) refused is_fault = absurd refused
  graph_fault board_errors.TooManyVertices refused is_fault = many_vertices (omega (arith, refused, AllZip-long (IsCell pieces directions (vertex_names vertices)) vertices written cells))
  graph_fault board_errors.SameVertex refused is_fault =
      same_vertex (twice_named (vertex_names vertices) (vertex_names vertices) (names_of written)
      (AllZip-both_maps (λ (vertex : SpeltVertex). vertex.name.text) (λ (w : Written). w.name) (IsCell pieces directions (vertex_names vertices)) (λ text n. slice_get (vertex_names vertices) n ≡ Some text) (λ vertex w is. is.name) vertices written cells) refused.1)
  graph_fault board_errors.SameDirection refused is_fault =
      let (vertex, w, stands, made, twice) = partner (IsCell pieces directions (vertex_names vertices)) (λ w. HasTwice (directions_in w.edges)) vertices written cells refused.2 in
      same_direction stands (twice_named directions (edge_directions vertex.edges) (directions_in w.edges)
      (AllZip-both_maps (λ (edge : SpeltEdge). edge.direction.text) (λ (e : ℕ × ℕ). e.0) (IsEdge directions (vertex_names vertices)) (λ text n. slice_get directions n ≡ Some text) (λ edge e is. is.direction) vertex.edges w.edges made.edges) twice)
  graph_fault board_errors.UnknownVertex refused is_fault =
      let (vertex, w, stands, made, some) =
      partner (IsCell pieces directions (vertex_names vertices)) (λ w. Any (λ edge. ¬ Contains (names_of written) edge.1) w.edges) vertices written cells refused.3 in
      let (edge, e, used, leads, unknown) = partner (IsEdge directions (vertex_names vertices)) (λ edge. ¬ Contains (names_of written) edge.1) vertex.edges w.edges made.edges some in
      unknown_vertex stands used (unknown_target edge.target e.1 leads.target unknown)
  graph_fault board_errors.Memory refused is_fault = absurd (is_fault refl)
