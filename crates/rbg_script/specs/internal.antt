-- Definitions that private contracts and proofs use, here and in crates above.
pub mod Whole
pub mod Reading
