-- Definitions that the crate's own proofs use.
pub mod Spans
pub mod Steps
pub mod Branches
pub mod Interned
pub mod Tables
