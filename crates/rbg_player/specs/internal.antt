-- Definitions that only this crate's own proofs use.
pub mod Codes
pub mod Sitting
pub mod Stages
