-- Definitions that proofs use.
pub mod Walking
pub mod Kinds
