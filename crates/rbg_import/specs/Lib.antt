-- What importing keeps, and the graphs that it writes, by topic.
pub mod Geometry
pub mod Graphs
pub mod Comments
pub mod Parts
pub mod Importing
