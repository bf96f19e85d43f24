-- Definitions that only this crate's own proofs and private contracts use.
pub mod Codes
pub mod Counting
pub mod Moving
pub mod Ordering
pub mod Places
pub mod Reading
pub mod Refusing
pub mod Shaping
pub mod Searching
pub mod Telling
pub mod CountRefusing
pub mod Bounds
pub mod Counts
