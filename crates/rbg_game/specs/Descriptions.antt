-- Which game a description is: its names, its board and its rules by numbers.
use Rattle.std.specs.Prelude.{◌≡◌, ℕ, ◌<◌, List, [], ◌∷◌, ◌++◌, Some}
use Rattle.std.specs.Prelude.{map, slice_get, Contains, flat_map}
use Rattle.std.specs.List.{AllZip, concat}
use Rattle.rbg_board.specs.Cells.{Rows, width_of}
use Rattle.rbg_board.specs.Graph.{Graph, HasWidth, IsGraphOf}
use Rattle.rbg_board.specs.Rectangle.{RectangleEdge, MakesRectangle}
use Rattle.rbg_board.specs.Hexagon.{HexagonEdge, MakesHexagon}
use Rattle.rbg_board.specs.Written.{Written, pieces_of, directions_of, WrittenEdge, MakesGraph}
use Rattle.rbg_grammar.specs.Tree.{SpeltName, SpeltBounded, SpeltEdge, SpeltVertex}
use Rattle.rbg_grammar.specs.Tree.{SpeltBoard, rectangle, hexagon, graph, SpeltDescription}
use Rattle.rbg_rules.specs.Meaning.{IsGame, AreDifferentNames, AbstractGame}
use Rattle.rbg_game.specs.NameNumbers.{Names, IsNumberOf, texts_of}
use Rattle.rbg_game.specs.Rules.{RuleIs}

-- the names of a game, by which its rules are numbered
abbrev pub names_in : AbstractGame → Names
names_in game =
    record { players = game.players; variables = game.variables; pieces = game.pieces; directions = game.directions }

-- Boards by numbers.

-- Names of directions and of pieces, and a board.
pub record NamedBoard : Type 0 where
  pub directions : List (List ℕ)
  pub pieces : List (List ℕ)
  pub board : Graph

abbrev pub board_in : AbstractGame → NamedBoard
board_in game = record { directions = game.directions; pieces = game.pieces; board = game.board }

-- The board is that of these rows. Its directions are the names in order, all different, which have these numbers, and
-- its cells the pieces named. It has an entry, a vertex or None, for each of its vertices and each direction. `Makes`
-- means that directions and cells have no fault, and `Edge` has where the directions lead.
pub record IsRowsBoard
    (Makes : List ℕ → Rows → Type 0)
    (Edge : List ℕ → Rows → ℕ → ℕ → ℕ → Type 0)
    (numbers : List ℕ)
    (b : NamedBoard)
    (names : List SpeltName)
    (rows : List (List SpeltName))
    : Type 0 where
  pub cells : Rows
  pub named : AllZip (AllZip (IsNumberOf b.pieces)) rows cells
  pub directions : b.directions ≡ texts_of names
  pub differ : AreDifferentNames b.directions
  pub makes : Makes numbers cells
  pub board : IsGraphOf b.board (concat cells) (Edge numbers cells)
  pub width : HasWidth (width_of numbers) b.board

-- the rectangle of these rows and four names, and the hexagon of these rows and six names
abbrev pub IsRectangleBoard : NamedBoard → List SpeltName → List (List SpeltName) → Type 0
IsRectangleBoard = IsRowsBoard MakesRectangle RectangleEdge (0 ∷ 1 ∷ 2 ∷ 3 ∷ [])

abbrev pub IsHexagonBoard : NamedBoard → List SpeltName → List (List SpeltName) → Type 0
IsHexagonBoard = IsRowsBoard MakesHexagon HexagonEdge (0 ∷ 1 ∷ 2 ∷ 3 ∷ 4 ∷ 5 ∷ [])

-- an edge by numbers: its direction's, and that of the vertex to which it leads
abbrev pub EdgeIs : NamedBoard → (vertices : List (List ℕ)) → SpeltEdge → ℕ × ℕ → Type 0
EdgeIs b vertices edge e = IsNumberOf b.directions edge.direction e.0 × IsNumberOf vertices edge.target e.1

-- a vertex by numbers
pub record VertexIs (b : NamedBoard) (vertices : List (List ℕ)) (vertex : SpeltVertex) (w : Written) : Type 0 where
  pub name : IsNumberOf vertices vertex.name w.name
  pub piece : IsNumberOf b.pieces vertex.piece w.piece
  pub edges : AllZip (EdgeIs b vertices) vertex.edges w.edges

-- the names of vertices
abbrev pub vertex_names : List SpeltVertex → List (List ℕ)
vertex_names vertices = map (λ vertex. vertex.name.text) vertices

-- the directions named in a list of vertices, in order of text
abbrev pub directions_named : List SpeltVertex → List (List ℕ)
directions_named vertices = flat_map (λ vertex. map (λ edge. edge.direction.text) vertex.edges) vertices

-- the names in order of first use, and no name twice
pub record IsOrderOfFirstUse (used names : List (List ℕ)) : Type 0 where
  pub differ : AreDifferentNames names
  pub all : (name : List ℕ) → Contains used name → Contains names name
  pub only : (name : List ℕ) → Contains names name → Contains used name
  pub in_order :
      (i j k : ℕ) (earlier later : List ℕ)
      → slice_get names i ≡ Some earlier
      → slice_get names j ≡ Some later
      → i < j
      → slice_get used k ≡ Some later
      → (m : ℕ) × (m < k) × (slice_get used m ≡ Some earlier)

-- The board is the graph of these vertices, whose names all differ. Directions are numbered in order of first use.
pub record IsGraphBoard (b : NamedBoard) (vertices : List SpeltVertex) : Type 0 where
  pub differ : AreDifferentNames (vertex_names vertices)
  pub written : List Written
  pub named : AllZip (VertexIs b (vertex_names vertices)) vertices written
  pub directions : IsOrderOfFirstUse (directions_named vertices) b.directions
  pub makes : MakesGraph written
  pub board : IsGraphOf b.board (pieces_of written) (WrittenEdge written)
  pub width : HasWidth (width_of (directions_of written)) b.board

-- What a board is.
abbrev pub BoardIs : NamedBoard → SpeltBoard → Type 0
BoardIs b (rectangle names rows) = IsRectangleBoard b names rows
BoardIs b (hexagon names rows) = IsHexagonBoard b names rows
BoardIs b (graph vertices) = IsGraphBoard b vertices

-- Games.

-- the names of players or variables
abbrev pub holder_names : List SpeltBounded → List (List ℕ)
holder_names holders = map (λ holder. holder.name.text) holders

-- the players, and then the variables
abbrev pub holders_of : SpeltDescription → List SpeltBounded
holders_of d = d.players ++ d.variables

-- the numbers are the bounds that are spelt
abbrev pub AreBounds : List SpeltBounded → List ℕ → Type 0
AreBounds = AllZip (λ holder bound. holder.bound.value ≡ Some bound)

-- The game is that of the description.
--   players, variables, pieces: the names in order of text; a player is a variable too
--   bounds: the numbers of the players and variables
--   board, rules: by numbers, with the actions numbered in order of text (which holds of every game)
--   lawful: what holds of every game, such as lawful names and the limits
pub record IsGameOf (d : SpeltDescription) (game : AbstractGame) : Type 0 where
  pub players : game.players ≡ holder_names d.players
  pub variables : game.variables ≡ holder_names (holders_of d)
  pub pieces : game.pieces ≡ texts_of d.pieces
  pub bounds : AreBounds (holders_of d) game.bounds
  pub board : BoardIs (board_in game) d.board
  pub rules : RuleIs (names_in game) d.rules game.rules
  pub lawful : IsGame game
