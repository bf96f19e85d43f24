-- Definitions that only this crate's proofs use.
pub mod Loading
pub mod Moments
pub mod Prepared
pub mod Recorded
pub mod Resuming
pub mod Writing
