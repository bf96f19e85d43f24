-- The definitions of this crate that most proofs cite, passed on from one place. Declares nothing.
pub use Rattle.rbg_board.specs.Cells.{HasTwice, IsCell, Rows, cells_in, number_along, rows_of, width_of}
unfoldable pub use Rattle.rbg_board.specs.Cells.{AreDifferent}
pub use Rattle.rbg_board.specs.Graph.{Graph, HasWidth, IsClosed, IsGraphOf, UsesOnly}
unfoldable pub use Rattle.rbg_board.specs.Graph.{next}
pub use Rattle.rbg_board.specs.Hexagon.{Compass, CompassStep, East, FitsAbove, Grows, GrowsThenShrinks, HasCells, HexagonEdge, HexagonRefusal, IsFirstMisfit, LacksCell, MakesHexagon, NorthEast, NorthWest, Shrinks, SouthEast, SouthEastStep, SouthWest, SouthWestStep, West, compass, compass_opposite}
pub use Rattle.rbg_board.specs.Laws.{GraphsLeadOneWay, HexagonsLeadBack, HexagonsLeadOneWay, RectanglesLeadBack, RectanglesLeadOneWay, RowsLeadBack}
pub use Rattle.rbg_board.specs.Limits.{most_vertices}
pub use Rattle.rbg_board.specs.Rectangle.{Down, HasFirstCell, IsEven, IsFirstUneven, LacksFirstCell, Left, MakesRectangle, RectangleEdge, RectangleRefusal, RectangleSide, Right, SideStep, Up, side_opposite, sides}
pub use Rattle.rbg_board.specs.RowEdges.{RowsEdge}
pub use Rattle.rbg_board.specs.RowLaws.{MakesRows}
unfoldable pub use Rattle.rbg_board.specs.RowLaws.{RowsRefusal}
pub use Rattle.rbg_board.specs.Shapes.{at_cell, cell_before, choose, first_four, first_six, side_vertex, way_vertex}
unfoldable pub use Rattle.rbg_board.specs.Shapes.{cell_left, cell_right, hexagon_leads, rectangle_leads}
pub use Rattle.rbg_board.specs.Sites.{IsLaidOut, IsRow, IsSite, cells_above, site_at, sites_along, ways_from}
unfoldable pub use Rattle.rbg_board.specs.Sites.{vertex_above, vertex_below, vertex_here}
pub use Rattle.rbg_board.specs.Steps.{IsStep}
pub use Rattle.rbg_board.specs.Table.{IsTable, graph_of_table}
unfoldable pub use Rattle.rbg_board.specs.Table.{rows_of_table}
pub use Rattle.rbg_board.specs.Vertices.{written, written_of}
pub use Rattle.rbg_board.specs.Wiring.{AddsRow, AllCovered, IsIndex, IsRowOf}
unfoldable pub use Rattle.rbg_board.specs.Wiring.{EdgesRefusal, WiringRefusal}
pub use Rattle.rbg_board.specs.Written.{DirectionsDiffer, HasCount, IsWritten, MakesGraph, TargetsKnown, Written, WrittenEdge, directions_in, directions_of, names_of, pieces_of}
unfoldable pub use Rattle.rbg_board.specs.Written.{GraphRefusal}
pub use Rattle.rbg_board.specs.declared.error.BoardError.{BoardError}
pub use Rattle.rbg_board.specs.declared.error.BoardError.TheVariants.{Memory, NoCell, RowLength, SameDirection, SameVertex, TooManyVertices, UnknownVertex}
pub use Rattle.rbg_board.specs.declared.graphs.Cell.{Cell}
pub use Rattle.rbg_board.specs.declared.rows.Site.{Site}
