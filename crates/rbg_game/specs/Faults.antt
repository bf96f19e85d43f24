-- Why a description is no game: the fault that an error names, at its place.
use Rattle.std.specs.Prelude.{◌≡◌, ◌≢◌, ℕ, ◌<◌, ◌↔◌, List, Some}
use Rattle.std.specs.Prelude.{map, length, slice_get, slice_index, Contains, flat_map}
use Rattle.std.specs.List.{AllZip}
use Rattle.rbg_board.specs.Cells.{Rows}
use Rattle.rbg_board.specs.Rectangle.{RectangleRefusal}
use Rattle.rbg_board.specs.Hexagon.{HexagonRefusal}
use Rattle.rbg_board.specs.declared.error.BoardError.{BoardError}
use Rattle.rbg_board.specs.declared.error.BoardError.TheVariants as board_errors
use Rattle.rbg_grammar.specs.Tree.{SpeltName, SpeltNumber, SpeltBounded, SpeltEdge, SpeltVertex}
use Rattle.rbg_grammar.specs.Tree.{SpeltBoard, rectangle, hexagon, graph, SpeltDescription}
use Rattle.rbg_rules.specs.Meaning.{most_players, most_pieces, most_variables, max_bound, most_directions, most_vertices}
use Rattle.rbg_game.specs.declared.game_error.GameError.{GameError}
use Rattle.rbg_game.specs.declared.game_error.GameError.TheVariants.{UnknownName, SameName, Bound, TooMany, Memory, Board}
use Rattle.rbg_game.specs.declared.game_error.Thing.TheVariants.{Players, Pieces, Variables, Directions}
use Rattle.rbg_game.specs.NameNumbers.{Names, IsNumberOf, texts_of}
use Rattle.rbg_game.specs.RuleFaults.{HasUnknown, HasRuleFault}
use Rattle.rbg_game.specs.Descriptions.{holder_names, holders_of, vertex_names, directions_named, IsOrderOfFirstUse}

-- The name is in the list at this offset, and the same name is before it.
pub record OccursAgain (list : List SpeltName) (at : ℕ) : Type 0 where
  pub i : ℕ
  pub j : ℕ
  pub earlier : SpeltName
  pub later : SpeltName
  pub before : i < j
  pub first : slice_get list i ≡ Some earlier
  pub second : slice_get list j ≡ Some later
  pub same : earlier.text ≡ later.text
  pub place : later.at ≡ at

-- The number is too large for a bound.
abbrev pub IsNoBound : SpeltNumber → Type 0
IsNoBound n = (bound : ℕ) → n.value ≡ Some bound → max_bound < bound

-- One of the bounds, at this offset, is too large.
pub record HasGreatBound (holders : List SpeltBounded) (at : ℕ) : Type 0 where
  pub holder : SpeltBounded
  pub stands : Contains holders holder
  pub too_great : IsNoBound holder.bound
  pub place : holder.bound.at ≡ at

-- Boards.

-- the names that a board's directions have, and the pieces of its cells, in order of text
abbrev pub board_directions : SpeltBoard → List SpeltName
board_directions (rectangle names rows) = names
board_directions (hexagon names rows) = names
board_directions (graph vertices) = flat_map (λ vertex. map (λ edge. edge.direction) vertex.edges) vertices

abbrev pub board_pieces : SpeltBoard → List SpeltName
board_pieces (rectangle names rows) = flat_map (λ row. row) rows
board_pieces (hexagon names rows) = flat_map (λ row. row) rows
board_pieces (graph vertices) = map (λ vertex. vertex.piece) vertices

-- The two have the same name.
abbrev pub HaveOneName : List SpeltName → ℕ → ℕ → Type 0
HaveOneName names i j = slice_get (texts_of names) i ≡ slice_get (texts_of names) j

-- The rows by the numbers of the pieces, and the directions by numbers that are equal exactly if the names are, are
-- refused with this error: for a fault, and not because memory ran out. `Refusal` has what the generator of the rows
-- refuses.
pub record HasRowsFault
    (Refusal : List ℕ → Rows → BoardError → Type 0)
    (pieces : List (List ℕ))
    (names : List SpeltName)
    (rows : List (List SpeltName))
    (error : BoardError)
    : Type 0 where
  pub directions : List ℕ
  pub cells : List (List ℕ)
  pub one_each : length directions ≡ length names
  pub numbered :
      (i j : ℕ)
      → i < length names
      → j < length names
      → (slice_index directions i ≡ slice_index directions j) ↔ HaveOneName names i j
  pub named : AllZip (AllZip (IsNumberOf pieces)) rows cells
  pub refused : Refusal directions cells error
  pub is_fault : error ≢ board_errors.Memory

-- One text is twice in the list.
pub record OccursTwice (list : List (List ℕ)) : Type 0 where
  pub i : ℕ
  pub j : ℕ
  pub text : List ℕ
  pub before : i < j
  pub first : slice_get list i ≡ Some text
  pub second : slice_get list j ≡ Some text

-- What is wrong with the vertices of a graph: there is none, there are too many, two have one name, two edges of one of
-- them have one direction, or an edge leads to a name that no vertex has.
pub data HasGraphFault (vertices : List SpeltVertex) : BoardError → Type 0 where
  no_vertex :
      length vertices ≡ 0
      → HasGraphFault vertices board_errors.NoCell
  many_vertices :
      most_vertices < length vertices
      → HasGraphFault vertices board_errors.TooManyVertices
  same_vertex :
      OccursTwice (vertex_names vertices)
      → HasGraphFault vertices board_errors.SameVertex
  same_direction : {vertex : SpeltVertex}
      → Contains vertices vertex
      → OccursTwice (map (λ edge. edge.direction.text) vertex.edges)
      → HasGraphFault vertices board_errors.SameDirection
  unknown_vertex : {vertex : SpeltVertex} {edge : SpeltEdge}
      → Contains vertices vertex
      → Contains vertex.edges edge
      → ¬ Contains (vertex_names vertices) edge.target.text
      → HasGraphFault vertices board_errors.UnknownVertex

-- What is wrong with a board, if these are the pieces. (Only a graph can have too many directions.)
pub data HasBoardFault (pieces : List (List ℕ)) : SpeltBoard → GameError → Type 0 where
  unknown_piece : {board : SpeltBoard} {at : ℕ}
      → HasUnknown pieces (board_pieces board) at
      → HasBoardFault pieces board (UnknownName at)
  many_directions : {vertices : List SpeltVertex} {names : List (List ℕ)}
      → IsOrderOfFirstUse (directions_named vertices) names
      → most_directions < length names
      → HasBoardFault pieces (graph vertices) (TooMany Directions)
  no_rectangle : {names : List SpeltName} {rows : List (List SpeltName)} {error : BoardError}
      → HasRowsFault RectangleRefusal pieces names rows error
      → HasBoardFault pieces (rectangle names rows) (Board error)
  no_hexagon : {names : List SpeltName} {rows : List (List SpeltName)} {error : BoardError}
      → HasRowsFault HexagonRefusal pieces names rows error
      → HasBoardFault pieces (hexagon names rows) (Board error)
  no_graph : {vertices : List SpeltVertex} {error : BoardError}
      → HasGraphFault vertices error
      → HasBoardFault pieces (graph vertices) (Board error)
  board_memory : {board : SpeltBoard}
      → HasBoardFault pieces board Memory

-- Descriptions.

abbrev pub names_of_holders : SpeltDescription → List SpeltName
names_of_holders d = map (λ holder. holder.name) (holders_of d)

-- the names that the rules may use
abbrev pub names_spelt : SpeltDescription → Names
names_spelt d =
    record {
      players = holder_names d.players;
      variables = holder_names (holders_of d);
      pieces = texts_of d.pieces;
      directions = texts_of (board_directions d.board);
    }

-- The description has the fault that an error names. Memory is no fault of the description, and may run out with any.
pub data HasFault (d : SpeltDescription) : GameError → Type 0 where
  same_holder : {at : ℕ}
      → OccursAgain (names_of_holders d) at
      → HasFault d (SameName at)
  same_piece : {at : ℕ}
      → OccursAgain d.pieces at
      → HasFault d (SameName at)
  great_bound : {at : ℕ}
      → HasGreatBound (holders_of d) at
      → HasFault d (Bound at)
  many_players :
      most_players < length d.players
      → HasFault d (TooMany Players)
  many_pieces :
      most_pieces < length d.pieces
      → HasFault d (TooMany Pieces)
  many_variables :
      most_variables < length (holders_of d)
      → HasFault d (TooMany Variables)
  in_board : {error : GameError}
      → HasBoardFault (texts_of d.pieces) d.board error
      → HasFault d error
  in_rules : {error : GameError}
      → HasRuleFault (names_spelt d) d.rules error
      → HasFault d error
  memory :
      HasFault d Memory
