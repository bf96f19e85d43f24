-- The definitions of this crate that most proofs cite, passed on from one place. Declares nothing.
pub use Rattle.rbg_game.specs.Descriptions.{AreBounds, BoardIs, EdgeIs, IsGameOf, IsGraphBoard, IsHexagonBoard, IsOrderOfFirstUse, IsRectangleBoard, IsRowsBoard, NamedBoard, VertexIs, board_in, directions_named, holder_names, holders_of, names_in, vertex_names}
pub use Rattle.rbg_game.specs.Faults.{HasBoardFault, HasFault, HasGraphFault, HasGreatBound, HasRowsFault, HaveOneName, OccursAgain, OccursTwice, board_directions, board_memory, board_pieces, great_bound, in_board, in_rules, many_directions, many_pieces, many_players, many_variables, many_vertices, memory, names_of_holders, names_spelt, no_graph, no_hexagon, no_rectangle, no_vertex, same_direction, same_holder, same_piece, same_vertex, unknown_piece, unknown_vertex}
pub use Rattle.rbg_game.specs.Layouts.{IsLayoutOf, of_graph, of_hexagon, of_rectangle}
pub use Rattle.rbg_game.specs.Loading.{Describes, HasSectionsOf, IsRefused, Loads}
pub use Rattle.rbg_game.specs.OneGame.{NoGameWithFaultLaw, OneGameLaw, OneGameOfDescriptionLaw}
pub use Rattle.rbg_game.specs.declared.checking.names.Things.{Things}
pub use Rattle.rbg_game.specs.declared.error.LoadError.{LoadError}
pub use Rattle.rbg_game.specs.declared.game_error.GameError.{GameError}
pub use Rattle.rbg_game.specs.declared.game_error.GameError.TheVariants.{Memory, TooMany}
pub use Rattle.rbg_game.specs.declared.game_error.Thing.TheVariants.{Directions, Pieces, Players, Variables}
pub use Rattle.rbg_game.specs.declared.layout.Layout.TheVariants.{Graph, Hexagon, Rectangle}
pub use Rattle.rbg_game.specs.internal.Boards.{HasVertices, IsNamed, IsRefusedFor, Joins, MakesBoard, NumbersDirections, refusal_of}
pub use Rattle.rbg_game.specs.internal.Graphs.{AddsInOrder, IsCell, IsEdge, IsTarget, edge_directions}
pub use Rattle.rbg_game.specs.internal.Holders.{HasHolderFault, by_bound, by_name}
pub use Rattle.rbg_game.specs.internal.Things.{AddsBounds, AreThingsOf, game_by_numbers}
