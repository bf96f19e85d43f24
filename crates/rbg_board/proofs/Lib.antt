-- What the proofs of this crate share. Crates above cite CallerLemmas.
pub mod Common
pub mod Tables
pub mod Numbering
pub mod Vectors
pub mod Layouts
pub mod Choices
pub mod Neighbours
pub mod Ways
pub mod RectangleEdges
pub mod HexagonEdges
pub mod CellReads
pub mod Indexing
pub mod Wirings
pub mod GraphEdges
pub mod EdgeLaws
pub mod Widths
pub mod CallerLemmas
