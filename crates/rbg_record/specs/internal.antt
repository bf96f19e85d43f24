-- Definitions that private contracts and proofs use, here and in crates above.
pub mod Faults
pub mod Reading
pub mod Written
pub mod Following
pub mod Migrating
-- Definitions that only this crate's proofs use.
pub mod Telling
