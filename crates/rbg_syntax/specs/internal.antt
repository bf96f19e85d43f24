-- Definitions that only the crate's own proofs and private contracts cite.
pub mod Giving
pub mod Levels
pub mod Kinds
pub mod Generators
