-- The layout of a board, as its description writes it.
use Rattle.std.specs.Prelude.{◌≡◌, ℕ, List, Vec, map, length}
use Rattle.std.specs.Global.{Global}
use Rattle.rbg_grammar.specs.Tree.{SpeltName, SpeltVertex, SpeltBoard, rectangle, hexagon, graph, SpeltDescription}
use Rattle.rbg_game.specs.NameTables.{bytes_of}
use Rattle.rbg_game.specs.Descriptions.{vertex_names}
use Rattle.rbg_game.specs.Loading.{Describes}
use Rattle.rbg_game.specs.declared.layout.Layout.{Layout}
use Rattle.rbg_game.specs.declared.layout.Layout.TheVariants.{Rectangle, Hexagon, Graph}

-- The layout of a board has the lengths of its rows, or the names of its vertices.
pub data IsLayoutOf : SpeltBoard → Layout → Type 0 where
  of_rectangle : {names : List SpeltName} {rows : List (List SpeltName)} {lengths : Vec ℕ Global}
      → lengths.items ≡ map length rows
      → IsLayoutOf (rectangle names rows) (Rectangle lengths)
  of_hexagon : {names : List SpeltName} {rows : List (List SpeltName)} {lengths : Vec ℕ Global}
      → lengths.items ≡ map length rows
      → IsLayoutOf (hexagon names rows) (Hexagon lengths)
  of_graph : {vertices : List SpeltVertex} {names : Vec (Vec ℕ Global) Global}
      → bytes_of names.items ≡ vertex_names vertices
      → IsLayoutOf (graph vertices) (Graph names)

-- The layout is that of the board that the text describes.
pub record HasLayout (text : List ℕ) (layout : Layout) : Type 0 where
  pub description : SpeltDescription
  pub describes : Describes text description
  pub layout_of : IsLayoutOf description.board layout
