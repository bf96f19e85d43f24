-- Definitions that only this crate's own proofs and private contracts use.
pub mod ByChance
