-- How a written graph becomes a table: the vertex of each name, and a row of entries for each vertex.
use Rattle.std.specs.Prelude.{◌≡◌, ℕ, ◌<◌, List, ◌++◌, Option, Some, None, length, slice_index, slice_index_or, Any, All}
use Rattle.rbg_board.specs.Written.{Written, SomeTargetUnknown}
use Rattle.rbg_board.specs.declared.error.BoardError.{BoardError}
use Rattle.rbg_board.specs.declared.error.BoardError.TheVariants.{NoCell, RowLength, TooManyVertices, SameDirection, UnknownVertex, SameVertex, Memory}

-- the index has the place of each name of the list, and no other name
pub record IsIndex (names : List ℕ) (index : ℕ → Option ℕ) : Type 0 where
  pub place_of_name : (k : ℕ) → k < length names → index (slice_index names k) ≡ Some k
  pub name_of_place : (n k : ℕ) → index n ≡ Some k → (k < length names) × (slice_index names k ≡ n)

-- every direction is below the width
abbrev pub AllCovered : ℕ → List Written → Type 0
AllCovered width vertices = All (λ w. All (λ edge. edge.0 < width) w.edges) vertices

-- the row of entries in which each direction leads where its edge does
pub record IsRowOf
    (index : ℕ → Option ℕ)
    (width : ℕ)
    (edges : List (ℕ × ℕ))
    (row : List (Option ℕ)) : Type 0 where
  pub size : length row ≡ width
  pub edge_of_entry : (d u : ℕ)
      → slice_index_or row d None ≡ Some u
      → Any (λ edge. (edge.0 ≡ d) × (index edge.1 ≡ Some u)) edges
  pub entry_of_edge : All (λ edge. slice_index_or row edge.0 None ≡ index edge.1) edges

-- the new table is the old one and a row for the edges
pub record AddsRow
    (index : ℕ → Option ℕ)
    (width : ℕ)
    (edges : List (ℕ × ℕ))
    (old new : List (Option ℕ)) : Type 0 where
  pub row : List (Option ℕ)
  pub added : new ≡ old ++ row
  pub is_row : IsRowOf index width edges row

-- what each refusal of edges means: an edge leads to a name that the index lacks, or memory runs out
unfoldable pub EdgesRefusal : (ℕ → Option ℕ) → List (ℕ × ℕ) → BoardError → Type 0
EdgesRefusal index edges NoCell = ⊥
EdgesRefusal index edges (RowLength row) = ⊥
EdgesRefusal index edges TooManyVertices = ⊥
EdgesRefusal index edges SameDirection = ⊥
EdgesRefusal index edges UnknownVertex = Any (λ edge. index edge.1 ≡ None) edges
EdgesRefusal index edges SameVertex = ⊥
EdgesRefusal index edges Memory = Unit {0}

-- what each refusal of a written graph's edges means: some edge leads to a name that no vertex has, or memory runs out
unfoldable pub WiringRefusal : List Written → BoardError → Type 0
WiringRefusal vertices NoCell = ⊥
WiringRefusal vertices (RowLength row) = ⊥
WiringRefusal vertices TooManyVertices = ⊥
WiringRefusal vertices SameDirection = ⊥
WiringRefusal vertices UnknownVertex = SomeTargetUnknown vertices
WiringRefusal vertices SameVertex = ⊥
WiringRefusal vertices Memory = Unit {0}
