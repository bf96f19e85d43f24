-- What is spelt as a board is at most one.
use Rattle.rbg_base.proofs.Common.{◌≡◌, ℕ, List, [], ◌∷◌, map, sym, ◌∙◌, subst, AllZip, concat}
use Rattle.rbg_board.proofs.Common.{Rows, width_of, HasWidth, IsGraphOf, RectangleEdge, MakesRectangle, HexagonEdge, MakesHexagon, Written, pieces_of, directions_of, WrittenEdge}
use Rattle.rbg_board.proofs.CallerLemmas.{one_graph}
use Rattle.rbg_grammar.specs.Tree.{SpeltName, SpeltEdge, SpeltVertex, SpeltBoard, rectangle, hexagon, graph}
use Rattle.rbg_rules.specs.Meaning.{AreDifferentNames}
use Rattle.rbg_game.specs.NameNumbers.{IsNumberOf}
use Rattle.rbg_game.specs.Descriptions.{NamedBoard, IsRowsBoard, EdgeIs, VertexIs, directions_named, IsGraphBoard, BoardIs}
use Rattle.rbg_game.proofs.BoardNames.{rows_once}
use Rattle.rbg_game.proofs.Lists.{AllZip-once}
use Rattle.rbg_game.proofs.OneGameLists.{first_use_once}

-- The boards are one, and have the same directions.
pub record IsSameBoard (a b : NamedBoard) : Type 0 where
  pub directions : a.directions ≡ b.directions
  pub board : a.board ≡ b.board

rows_board_once : (Makes : List ℕ → Rows → Type 0) (Edge : List ℕ → Rows → ℕ → ℕ → ℕ → Type 0) (numbers : List ℕ) (a b : NamedBoard) (names : List SpeltName) (rows : List (List SpeltName)) → AreDifferentNames a.pieces → a.pieces ≡ b.pieces
    → IsRowsBoard Makes Edge numbers a names rows → IsRowsBoard Makes Edge numbers b names rows → IsSameBoard a b
rows_board_once Makes Edge numbers a b names rows differ same left right =
    let named = subst (λ pieces. AllZip (AllZip (IsNumberOf pieces)) rows right.cells) (sym same) right.named in
    let cells : left.cells ≡ right.cells = rows_once a.pieces differ rows left.cells right.cells left.named named in
    record {
      directions = left.directions ∙ sym right.directions;
      board =
          one_graph a.board b.board (width_of numbers) (concat left.cells) (Edge numbers left.cells) left.width right.width left.board
          (subst (λ rows. IsGraphOf b.board (concat rows) (Edge numbers rows)) (sym cells) right.board);
    }

-- different names give a name one number, also in two lists that are one
number_once : (a b : List (List ℕ)) (name : SpeltName) (m n : ℕ) → AreDifferentNames a → a ≡ b → IsNumberOf a name m → IsNumberOf b name n → m ≡ n
number_once a b name m n differ same is_m is_n = differ.one_number m n name.text is_m (subst (λ list. IsNumberOf list name n) (sym same) is_n)

-- What makes the numbers of a graph's names determined.
record HasOneNumbering (a b : NamedBoard) (vertices : List (List ℕ)) : Type 0 where
  vertices_differ : AreDifferentNames vertices
  pieces_differ : AreDifferentNames a.pieces
  directions_differ : AreDifferentNames a.directions
  same_pieces : a.pieces ≡ b.pieces
  same_directions : a.directions ≡ b.directions

edge_once : (a b : NamedBoard) (vertices : List (List ℕ)) → HasOneNumbering a b vertices → (edge : SpeltEdge) (e f : ℕ × ℕ) → EdgeIs a vertices edge e → EdgeIs b vertices edge f → e ≡ f
edge_once a b vertices one edge e f left right =
    let direction : e.0 ≡ f.0 = number_once a.directions b.directions edge.direction e.0 f.0 one.directions_differ one.same_directions left.0 right.0 in
    let target : e.1 ≡ f.1 = one.vertices_differ.one_number e.1 f.1 edge.target.text left.1 right.1 in
    λ i. (direction i, target i)

vertex_once : (a b : NamedBoard) (vertices : List (List ℕ)) → HasOneNumbering a b vertices → (vertex : SpeltVertex) (w z : Written) → VertexIs a vertices vertex w → VertexIs b vertices vertex z → w ≡ z
vertex_once a b vertices one vertex w z left right =
    let name : w.name ≡ z.name = one.vertices_differ.one_number w.name z.name vertex.name.text left.name right.name in
    let piece : w.piece ≡ z.piece = number_once a.pieces b.pieces vertex.piece w.piece z.piece one.pieces_differ one.same_pieces left.piece right.piece in
    let edges : w.edges ≡ z.edges = AllZip-once (EdgeIs a vertices) (EdgeIs b vertices) (edge_once a b vertices one) vertex.edges w.edges z.edges left.edges right.edges in
    λ i. record { name = name i; piece = piece i; edges = edges i }

graph_once : (a b : NamedBoard) (vertices : List SpeltVertex) → AreDifferentNames a.pieces → a.pieces ≡ b.pieces → IsGraphBoard a vertices → IsGraphBoard b vertices → IsSameBoard a b
graph_once a b vertices differ same left right =
    let names : List (List ℕ) = map (λ (vertex : SpeltVertex). vertex.name.text) vertices in
    let directions : a.directions ≡ b.directions = first_use_once (directions_named vertices) a.directions b.directions left.directions right.directions in
    let one : HasOneNumbering a b names =
    record { vertices_differ = left.differ; pieces_differ = differ; directions_differ = left.directions.differ; same_pieces = same; same_directions = directions } in
    let written : left.written ≡ right.written = AllZip-once (VertexIs a names) (VertexIs b names) (vertex_once a b names one) vertices left.written right.written left.named right.named in
    record {
      directions = directions;
      board =
          one_graph a.board b.board (width_of (directions_of left.written)) (pieces_of left.written) (WrittenEdge left.written) left.width
          (subst (λ ws. HasWidth (width_of (directions_of ws)) b.board) (sym written) right.width) left.board
          (subst (λ ws. IsGraphOf b.board (pieces_of ws) (WrittenEdge ws)) (sym written) right.board);
    }

-- At most one board is spelt, if the pieces have different names.
pub board_once : (board : SpeltBoard) (a b : NamedBoard) → AreDifferentNames a.pieces → a.pieces ≡ b.pieces → BoardIs a board → BoardIs b board → IsSameBoard a b
board_once (rectangle names rows) a b differ same left right = rows_board_once MakesRectangle RectangleEdge (0 ∷ 1 ∷ 2 ∷ 3 ∷ []) a b names rows differ same left right
board_once (hexagon names rows) a b differ same left right = rows_board_once MakesHexagon HexagonEdge (0 ∷ 1 ∷ 2 ∷ 3 ∷ 4 ∷ 5 ∷ []) a b names rows differ same left right
board_once (graph vertices) a b differ same left right = graph_once a b vertices differ same left right

-- The directions of a board have different names.
pub board_directions_differ : (board : SpeltBoard) (b : NamedBoard) → BoardIs b board → AreDifferentNames b.directions
board_directions_differ (rectangle names rows) b is = is.differ
board_directions_differ (hexagon names rows) b is = is.differ
board_directions_differ (graph vertices) b is = is.directions.differ
