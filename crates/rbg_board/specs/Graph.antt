-- A board as a graph: the vertices with their first pieces, and where each direction leads.
use Rattle.std.specs.Prelude.{◌≡◌, ℕ, ◌<◌, ◌↔◌, List, [], Option, Some, None, length, slice_index_or, All, Contains}

-- The vertices are the numbers below the length of `first`, which has the first piece of each. `ways` has for each
-- vertex, and for each direction, the vertex to which that direction leads, if there is one.
pub record Graph : Type 0 where
  pub first : List ℕ
  pub ways : List (List (Option ℕ))

-- the vertex to which the direction d leads from the vertex v, if there is one: a partial function of a vertex and a
-- direction, so a vertex has at most one edge in a direction
unfoldable pub next : Graph → ℕ → ℕ → Option ℕ
next g v d = slice_index_or (slice_index_or g.ways v []) d None

-- there is a row of ways for each vertex, each with an entry for each direction below the width
pub record HasWidth (width : ℕ) (g : Graph) : Type 0 where
  pub rows : length g.ways ≡ length g.first
  pub entries : All (λ row. length row ≡ width) g.ways

-- there is a row of ways for each vertex, all of one width
pub record HasOneWidth (g : Graph) : Type 0 where
  pub width : ℕ
  pub has_width : HasWidth width g

-- every edge leads from a vertex to a vertex
pub record IsClosed (g : Graph) : Type 0 where
  pub from_vertex : (v d u : ℕ) → next g v d ≡ Some u → v < length g.first
  pub to_vertex : (v d u : ℕ) → next g v d ≡ Some u → u < length g.first

-- only these directions lead anywhere
pub record UsesOnly (directions : List ℕ) (g : Graph) : Type 0 where
  pub is_given : (v d u : ℕ) → next g v d ≡ Some u → Contains directions d

-- the graph with these first pieces whose edges are exactly the triples (vertex, direction, vertex) of a set
pub record IsGraphOf (g : Graph) (first : List ℕ) (Edge : ℕ → ℕ → ℕ → Type 0) : Type 0 where
  pub first_pieces : g.first ≡ first
  pub edges : (v d u : ℕ) → (next g v d ≡ Some u) ↔ Edge v d u
