-- What the proofs of this crate share.
mod Reading
mod Answering
mod Naming
mod Places
mod Sorted
mod Mixing
mod Counted
pub mod Faults
mod OutOfMemory
pub mod PlayedMatches
pub mod Tallies
-- Lemmas, by topic.
mod Refusing
mod CountSums
mod Totals
mod Lines
mod PlayoutBeginning
mod Shaping
mod Searched
mod Sampled
mod Packed
mod Misfits
mod Digits
