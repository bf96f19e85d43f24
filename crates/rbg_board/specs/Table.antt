-- How a board is stored: one flat table, with a row of entries for each vertex.
use Rattle.std.specs.Prelude.{◌≡◌, ℕ, ◌*◌, ◌<◌, ◌≤◌, List, Option, length, map, take, drop, IfSome}
use Rattle.std.specs.List.{range_with_len, All}
use Rattle.rbg_board.specs.Graph.{Graph}
use Rattle.rbg_board.specs.Limits.{most_vertices}

-- the rows of a table, one for each vertex
unfoldable pub rows_of_table : ℕ → ℕ → List (Option ℕ) → List (List (Option ℕ))
rows_of_table vertices width table = map (λ v. take width (drop (v * width) table)) (range_with_len 0 vertices)

-- the graph with these first pieces and the edges of a table
abbrev pub graph_of_table : List ℕ → ℕ → List (Option ℕ) → Graph
graph_of_table first width table = record { first = first; ways = rows_of_table (length first) width table }

-- a table of the edges between this number of vertices
pub record IsTable (vertices width : ℕ) (table : List (Option ℕ)) : Type 0 where
  pub some : 0 < vertices
  pub limit : vertices ≤ most_vertices
  pub size : length table ≡ vertices * width
  pub to_vertices : All (λ to. IfSome to (λ u. u < vertices)) table
