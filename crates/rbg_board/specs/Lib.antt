-- Boards and their generators.
pub mod Limits
pub mod Graph
pub mod Table
pub mod Cells
pub mod Steps
pub mod Sites
pub mod Shapes
pub mod RowLaws
pub mod RowEdges
pub mod Rectangle
pub mod Hexagon
pub mod Written
pub mod Vertices
pub mod Wiring
pub mod Laws
