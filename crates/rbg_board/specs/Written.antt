-- Graphs as they are written: each vertex with its name, its first piece and its edges.
use Rattle.std.specs.Prelude.{◌≡◌, ℕ, ◌<◌, ◌≤◌, List, length, map, Some, slice_get, Contains, All, Any}
use Rattle.std.specs.List.{flat_map}
use Rattle.rbg_board.specs.Graph.{Graph, IsGraphOf}
use Rattle.rbg_board.specs.Cells.{HasTwice, AreDifferent}
use Rattle.rbg_board.specs.declared.error.BoardError.{BoardError}
use Rattle.rbg_board.specs.declared.error.BoardError.TheVariants.{NoCell, RowLength, TooManyVertices, SameDirection, UnknownVertex, SameVertex, Memory}
use Rattle.rbg_board.specs.Limits.{most_vertices}

-- a vertex as it is written; an edge is a direction and the name of the vertex to which it leads
pub record Written : Type 0 where
  pub name : ℕ
  pub piece : ℕ
  pub edges : List (ℕ × ℕ)

abbrev pub names_of : List Written → List ℕ
names_of vertices = map (λ w. w.name) vertices

abbrev pub pieces_of : List Written → List ℕ
pieces_of vertices = map (λ w. w.piece) vertices

-- the directions of edges
abbrev pub directions_in : List (ℕ × ℕ) → List ℕ
directions_in edges = map (λ edge. edge.0) edges

-- the directions of all edges
abbrev pub directions_of : List Written → List ℕ
directions_of vertices = flat_map (λ w. directions_in w.edges) vertices

-- the edges of a written graph: the direction d leads from the vertex v to the vertex u
pub record WrittenEdge (vertices : List Written) (v d u : ℕ) : Type 0 where
  pub source : Written
  pub target : Written
  pub is_source : slice_get vertices v ≡ Some source
  pub is_target : slice_get vertices u ≡ Some target
  pub edge : Contains source.edges (d, target.name)

-- the board of a written graph: its first pieces, and its edges
abbrev pub IsWritten : List Written → Graph → Type 0
IsWritten vertices board = IsGraphOf board (pieces_of vertices) (WrittenEdge vertices)

-- no two edges of a vertex have one direction
abbrev pub DirectionsDiffer : List Written → Type 0
DirectionsDiffer vertices = All (λ w. AreDifferent (directions_in w.edges)) vertices

-- two edges of some vertex have one direction
abbrev pub SomeDirectionTwice : List Written → Type 0
SomeDirectionTwice vertices = Any (λ w. HasTwice (directions_in w.edges)) vertices

-- each edge leads to the name of a vertex
abbrev pub TargetsKnown : List Written → Type 0
TargetsKnown vertices = All (λ w. All (λ edge. Contains (names_of vertices) edge.1) w.edges) vertices

-- some edge leads to a name that no vertex has
abbrev pub SomeTargetUnknown : List Written → Type 0
SomeTargetUnknown vertices = Any (λ w. Any (λ edge. ¬ Contains (names_of vertices) edge.1) w.edges) vertices

-- as many vertices as a board may have
pub record HasCount (vertices : List Written) : Type 0 where
  pub some : 0 < length vertices
  pub fits : length vertices ≤ most_vertices

-- a written graph without a fault
pub record MakesGraph (vertices : List Written) : Type 0 where
  pub count : HasCount vertices
  pub names_differ : AreDifferent (names_of vertices)
  pub directions_differ : DirectionsDiffer vertices
  pub targets_known : TargetsKnown vertices

-- What each refusal means for the vertices: they have the fault that it names, and no fault that is looked for earlier.
-- `Memory` is returned only for a number of vertices that is allowed.
unfoldable pub GraphRefusal : List Written → BoardError → Type 0
GraphRefusal vertices NoCell = length vertices ≡ 0
GraphRefusal vertices TooManyVertices = most_vertices < length vertices
GraphRefusal vertices SameVertex =
    HasCount vertices
    × HasTwice (names_of vertices)
GraphRefusal vertices SameDirection =
    HasCount vertices
    × AreDifferent (names_of vertices)
    × SomeDirectionTwice vertices
GraphRefusal vertices UnknownVertex =
    HasCount vertices
    × AreDifferent (names_of vertices)
    × DirectionsDiffer vertices
    × SomeTargetUnknown vertices
GraphRefusal vertices (RowLength row) = ⊥
GraphRefusal vertices Memory = HasCount vertices
