-- Vertices and edges of a graph by the numbers of their names.
use Rattle.std.specs.Prelude.{◌≡◌, ℕ, ◌⊎◌, List, ◌++◌, length, map, Contains}
use Rattle.std.specs.List.{AllZip}
use Rattle.rbg_board.specs.Written.{Written}
use Rattle.rbg_grammar.specs.Tree.{SpeltName, SpeltEdge, SpeltVertex}
use Rattle.rbg_game.specs.NameNumbers.{IsNumberOf}
use Rattle.rbg_game.specs.Descriptions.{IsOrderOfFirstUse}

-- the names of the directions of edges
abbrev pub edge_directions : List SpeltEdge → List (List ℕ)
edge_directions edges = map (λ edge. edge.direction.text) edges

-- The names that edges use join the table: it keeps the names that are used in order of first use.
pub record AddsInOrder (names old new : List (List ℕ)) : Type 0 where
  pub in_order : (used : List (List ℕ)) → IsOrderOfFirstUse used old → IsOrderOfFirstUse (used ++ names) new

-- the number of the vertex of that name, or a number that no vertex has if there is none
pub record IsTarget (vertices : List (List ℕ)) (target : SpeltName) (n : ℕ) : Type 0 where
  pub cases : IsNumberOf vertices target n ⊎ ((¬ Contains vertices target.text) × (n ≡ length vertices))

-- an edge by numbers
pub record IsEdge (directions vertices : List (List ℕ)) (edge : SpeltEdge) (e : ℕ × ℕ) : Type 0 where
  pub direction : IsNumberOf directions edge.direction e.0
  pub target : IsTarget vertices edge.target e.1

-- a vertex by numbers
pub record IsCell (pieces directions vertices : List (List ℕ)) (vertex : SpeltVertex) (w : Written) : Type 0 where
  pub name : IsNumberOf vertices vertex.name w.name
  pub piece : IsNumberOf pieces vertex.piece w.piece
  pub edges : AllZip (IsEdge directions vertices) vertex.edges w.edges
